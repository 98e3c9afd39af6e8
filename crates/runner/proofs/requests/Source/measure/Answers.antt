use Rattle.std.proofs.Common.{rules}
use Rattle.runner.proofs.requests.Source.measure.Goals as goal

pub returns-in_err-dimensions : goal.returns-in_err-dimensions
returns-in_err-dimensions g c = let h = c.in_err-dimensions.ensures.steps (g.S.Shelf.texts c.args.self.now.shelf.now) in search rules

pub returns : goal.returns
returns g c = let h = c.in_ok-dimensions.ensures.steps (g.S.Shelf.texts c.args.self.now.shelf.now) in search rules
