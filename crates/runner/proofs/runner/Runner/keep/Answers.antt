use Rattle.std.proofs.Common.{rules}
use Rattle.runner.proofs.runner.Runner.keep.Goals as goal

pub returns-in_err-kept : goal.returns-in_err-kept
returns-in_err-kept g c = let h = c.in_err-kept.ensures.steps (g.S.Shelf.texts c.args.shelf.now) in search rules

pub returns : goal.returns
returns g c = let h = c.in_ok-kept.ensures.steps (g.S.Shelf.texts c.args.shelf.now) in search rules
