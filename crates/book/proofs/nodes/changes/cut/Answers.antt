use Rattle.std.proofs.Common.{arith}
use Rattle.std.proofs.lemmas.Result.{err_from_is_err_and}
use Rattle.book.proofs.Changing.{cut_fails, cut_fails₂, cut_outer, cut_fails₃, cut_done}
use Rattle.book.proofs.nodes.changes.cut.Goals as goal

pub returns-in_err-outer : goal.returns-in_err-outer
returns-in_err-outer c =
    let p = err_from_is_err_and c.from_residual.result c.from_residual.ensures.1 in
    rw p.1 (cut_fails c.args.root c.args.from c.in_err-outer.ensures.case c.args.len (omega (arith, c.if-len-eq0.false)))

pub returns-in_err-inner : goal.returns-in_err-inner
returns-in_err-inner c =
    let p = err_from_is_err_and c.from_residual-in_err-inner.result c.from_residual-in_err-inner.ensures.1 in
    rw p.1 (cut_fails₂ c.args.root c.args.from c.requires.ready c.requires.root c.in_ok-outer.outer c.in_ok-outer.ensures.case c.args.len (omega (arith, c.if-len-eq0.false))
    c.in_err-inner.ensures.case)

pub join_any-requires : goal.join_any-requires
join_any-requires c = cut_outer c.args.root c.args.from c.requires.ready c.requires.root c.in_ok-outer.outer c.in_ok-outer.ensures.case c.args.len
    c.in_ok-inner.inner c.in_ok-inner.ensures.case

pub returns-in_err-whole : goal.returns-in_err-whole
returns-in_err-whole c =
    let p = err_from_is_err_and c.from_residual-in_err-whole.result c.from_residual-in_err-whole.ensures.1 in
    rw p.1 (cut_fails₃ c.args.root c.args.from c.requires.ready c.requires.root c.in_ok-outer.outer c.in_ok-outer.ensures.case c.args.len
    c.in_ok-inner.inner c.in_ok-inner.ensures.case (omega (arith, c.if-len-eq0.false)) c.in_err-whole.ensures.case)

pub returns : goal.returns
returns c = rw (c.then-2.ensures, c.then.ensures) (cut_done c.args.root c.args.from c.requires.ready c.requires.root c.in_ok-outer.outer c.in_ok-outer.ensures.case c.args.len
    c.in_ok-inner.inner c.in_ok-inner.ensures.case c.in_ok-whole.whole (omega (arith, c.if-len-eq0.false)) c.in_ok-whole.ensures.case)
