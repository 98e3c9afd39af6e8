-- A call on the book, told for a sheet.
use Rattle.std.proofs.Common.{◌≡◌, ℕ, List, Result, sym, ap, subst}
use Rattle.model.specs.Answers.{Answer, by_book, BookTold}
use Rattle.model.specs.Book.{Book, book_step}
use Rattle.model.specs.Calls.{BookCall, on_book}
use Rattle.model.specs.Runs.{step, mapped_answer}
use Rattle.model.specs.Sheet.{Rule, Sheet}
use Rattle.book.specs.declared.fault.BookFault.{BookFault}
use Rattle.replay.specs.declared.call.Answer as code
use Rattle.replay.specs.declared.call.BookTold as books
use Rattle.replay.specs.declared.call.Call.{Call}
use Rattle.replay.specs.declared.call.Change.{Change}
use Rattle.replay.specs.declared.call.Which.{Which}
use Rattle.replay.specs.declared.call.Which.TheVariants.{First}
use Rattle.replay.specs.Calls.{change_call, book_answer}
use Rattle.replay.specs.Replays.{state, Performs}

pub on_book_step : {V : Type 0} (texts : List (List ℕ)) (rule : Rule V) (b b' : Book) (s : Sheet V) (call : BookCall) (answer : Answer BookTold) →
    book_step texts b call ≡ (answer, b') → step texts rule (state b s) (on_book call) ≡ (mapped_answer by_book answer, state b' s)
on_book_step texts rule b b' s call answer e =
    ap (λ (r : Answer BookTold × Book). (mapped_answer by_book r.0, state r.1 s)) e

-- a call that may change the book leaves both sheets
pub by_change : {P Q : Type 0} (patterns : List ℕ) (texts : Which → List (List ℕ)) (p : Rule P) (q : Rule Q) (b b' : Book) (s : Sheet P) (t : Sheet Q)
    (call : Call) (change : Change) (answer : Result books.BookTold BookFault) → call ≡ Call.Book change → book_step (texts First) b (change_call change) ≡ (book_answer answer, b') →
    Performs patterns texts p q b b' s s t t call (code.Answer.Book answer)
by_change patterns texts p q b b' s t call change answer e f =
    subst (λ (x : Call). Performs patterns texts p q b b' s s t t x (code.Answer.Book answer)) (sym e) (record {
      first = on_book_step (texts First) p b b' s (change_call change) (book_answer answer) f;
      second = on_book_step (texts First) q b b' t (change_call change) (book_answer answer) f;
    })
