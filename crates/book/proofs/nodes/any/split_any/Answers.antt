use Rattle.std.proofs.Common.{arith}
use Rattle.std.proofs.lemmas.Result.{err_from_is_err_and}
use Rattle.book.proofs.Roots.{end_halves, is_inside, inside_fails, inside_halves}
use Rattle.book.proofs.nodes.any.split_any.Goals as goal

pub returns-then-nodes-slot : goal.returns-then-nodes-slot
returns-then-nodes-slot c = rw c.there-then-nodes-slot.ensures (end_halves c.args.root c.in-Some.slot c.args.place c.requires.ready c.requires.root c.in-Some.is (omega (arith, c.if-place-eq0.false)) c.if-nodes-slot.true)

pub split-requires : goal.split-requires
split-requires c = is_inside c.args.root c.in-Some.slot c.args.place c.requires.ready c.requires.root c.in-Some.is (omega (arith, c.if-place-eq0.false)) c.if-nodes-slot.false

pub returns-in_err-parts : goal.returns-in_err-parts
returns-in_err-parts c =
    let p = err_from_is_err_and c.from_residual.result c.from_residual.ensures.1 in
    rw p.1 (inside_fails c.args.root c.in-Some.slot c.args.place c.requires.ready c.requires.root c.in-Some.is (omega (arith, c.if-place-eq0.false)) c.if-nodes-slot.false
    c.in_err-parts.ensures.case)

pub returns : goal.returns
returns c = rw c.with.ensures (inside_halves c.args.root c.in-Some.slot c.args.place c.requires.ready c.requires.root c.in-Some.is (omega (arith, c.if-place-eq0.false)) c.if-nodes-slot.false
    c.in_ok-parts.parts c.in_ok-parts.ensures.case)
