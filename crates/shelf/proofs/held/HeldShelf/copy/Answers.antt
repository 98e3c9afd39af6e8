use Rattle.std.proofs.Common.{◌≡◌, ◌+◌, ◌-◌, length, take, drop, sym, ap, ◌∙◌, arith, length-take}
use Rattle.std.proofs.lemmas.Result.{err_from_is_err_and}
use Rattle.shelf.specs.Kinds.{held_texts}
use Rattle.shelf.specs.Texts.{limit}
use Rattle.shelf.proofs.Copies.{refused, accepted_one, stretch_take}
use Rattle.shelf.proofs.held.HeldShelf.copy.Goals as goal

pub returns-in_err-check_copy_of_one : goal.returns-in_err-check_copy_of_one
returns-in_err-check_copy_of_one c =
    let bytes = c.args.self.now.bytes.now in
    let p = err_from_is_err_and c.from_residual.result c.from_residual.ensures.1 in
    let e = c.in_err-check_copy_of_one.ensures.answers (take limit bytes) (omega (arith, length-take limit bytes)) in
    let q = refused (held_texts bytes) c.args.k c.args.from c.args.out.now _ e in
    record { answers = rw (p.1, p.2) q.answers; fills = q.fills }

pub returns : goal.returns
returns c =
    let bytes = c.args.self.now.bytes.now in
    let from = c.args.from in
    let n = length c.args.out.now in
    let short : from + n - from ≡ n = omega arith in
    let e = c.in_ok-check_copy_of_one.ensures.answers (take limit bytes) (omega (arith, length-take limit bytes)) in
    let after = c.copy_from_slice.ensures.after ∙ ap (λ m. take m (drop from bytes)) short ∙ sym (stretch_take from n limit bytes (omega (arith, c.in_ok-check_copy_of_one.ensures.within))) in
    let q = accepted_one (take limit bytes) c.args.k from c.args.out.now _ e after in
    record { answers = q.answers; fills = q.fills }
