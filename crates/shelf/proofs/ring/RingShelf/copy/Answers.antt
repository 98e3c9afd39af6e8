use Rattle.std.proofs.Common.{length, take, ap, ◌∙◌, arith, length-take}
use Rattle.std.proofs.lemmas.Result.{err_from_is_err_and}
use Rattle.shelf.specs.Fits.{length_ring}
use Rattle.shelf.specs.Kinds.{ring_text, ring_texts}
use Rattle.shelf.specs.Texts.{limit, stretch}
use Rattle.shelf.proofs.Copies.{refused, accepted_one, take_short}
use Rattle.shelf.proofs.ring.RingShelf.copy.Goals as goal

pub returns-in_err-check_copy_of_one : goal.returns-in_err-check_copy_of_one
returns-in_err-check_copy_of_one c =
    let bytes = c.args.self.now.bytes.now in
    let start = c.args.self.now.start in
    let p = err_from_is_err_and c.from_residual.result c.from_residual.ensures.1 in
    let e = c.in_err-check_copy_of_one.ensures.answers (ring_text (take limit bytes) start) (omega (arith, length_ring (take limit bytes) start, length-take limit bytes)) in
    let q = refused (ring_texts bytes start) c.args.k c.args.from c.args.out.now _ e in
    record { answers = rw (p.1, p.2) q.answers; fills = q.fills }

pub returns : goal.returns
returns c =
    let bytes = c.args.self.now.bytes.now in
    let start = c.args.self.now.start in
    let n = length c.args.out.now in
    let e = c.in_ok-check_copy_of_one.ensures.answers (ring_text (take limit bytes) start) (omega (arith, length_ring (take limit bytes) start, length-take limit bytes)) in
    let q = accepted_one (ring_text (take limit bytes) start) c.args.k c.args.from c.args.out.now _ e
    (c.copy_around.ensures ∙ ap (λ memory. stretch c.args.from n (ring_text memory start)) (take_short _ limit bytes (omega arith))) in
    record { answers = q.answers; fills = q.fills }
