use Rattle.std.proofs.lemmas.Result.{err_from_is_err_and}
use Rattle.book.proofs.Changing.{crop_fails, crop_fails₂, crop_done}
use Rattle.book.proofs.nodes.changes.crop.Goals as goal

pub returns-in_err-outer : goal.returns-in_err-outer
returns-in_err-outer c =
    let p = err_from_is_err_and c.from_residual.result c.from_residual.ensures.1 in
    rw p.1 (crop_fails c.args.root c.args.from c.in_err-outer.ensures.case c.args.len)

pub returns-in_err-inner : goal.returns-in_err-inner
returns-in_err-inner c =
    let p = err_from_is_err_and c.from_residual-in_err-inner.result c.from_residual-in_err-inner.ensures.1 in
    rw p.1 (crop_fails₂ c.args.root c.args.from c.requires.ready c.requires.root c.in_ok-outer.outer c.in_ok-outer.ensures.case c.args.len
    c.in_err-inner.ensures.case)

pub returns : goal.returns
returns c = rw (c.with.ensures, c.then.ensures) (crop_done c.args.root c.args.from c.requires.ready c.requires.root c.in_ok-outer.outer c.in_ok-outer.ensures.case c.args.len
    c.in_ok-inner.inner c.in_ok-inner.ensures.case)
