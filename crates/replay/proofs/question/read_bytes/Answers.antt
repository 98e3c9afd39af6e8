use Rattle.std.proofs.Common.{◌≡◌, map, length, sym, ap, ◌∙◌, arith}
use Rattle.std.proofs.lemmas.List.{take_at}
use Rattle.model.specs.Answers.{BookTold}
use Rattle.model.specs.Book.{book_step}
use Rattle.model.specs.Calls as calls
use Rattle.book.specs.Faults.{answer}
use Rattle.book.specs.Whole.{view}
use Rattle.replay.proofs.Calling.{followed}
use Rattle.replay.proofs.Asking.{read_refused, read_past}
use Rattle.replay.proofs.question.read_bytes.Goals as goal

pub returns-in-Err : goal.returns-in-Err
returns-in-Err g c =
    let texts = g.S.Shelf.texts c.args.shelf.now in
    read_refused texts (view c.args.book.now) c.args.version _ (c.in-Err.ensures.steps texts) c.args.from c.args.len (map length texts)

pub returns-in-Ok : goal.returns-in-Ok
returns-in-Ok g c =
    let texts = g.S.Shelf.texts c.args.shelf.now in
    read_past texts (view c.args.book.now) c.args.version c.in-Ok.dimensions (c.in-Ok.ensures.steps texts) c.args.from c.args.len (map length texts)
    c.if-len-dimensions.true

pub returns : goal.returns
returns g c =
    let texts = g.S.Shelf.texts c.args.shelf.now in
    let book = view c.args.book.now in
    let res = c.read-res.result in
    let long : length c.as_mut_slice.result.now ≡ c.args.len = omega (arith, c.in_ok-bytes.ensures.len) in
    ap (λ n. book_step texts book (calls.read c.args.version c.args.from n (map length texts))) (sym long)
    ∙ c.read-res.ensures.steps
    ∙ ap (λ bytes. (answer (λ _. BookTold.bytes bytes) res, book)) (sym (take_at c.read-res.new.out _ _ (omega (arith, c.in_ok-bytes.ensures.len))))
    ∙ ap (λ a. (a, book)) (followed _ res _ c.and.ensures)
