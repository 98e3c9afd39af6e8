use Rattle.replay.proofs.Steps.{by_change}
use Rattle.replay.proofs.performing.perform.Goals as goal

pub returns-in-Book : goal.returns-in-Book
returns-in-Book g c =
    by_change _ _ _ _ _ _ _ _ _ c.in-Book.change c.change.result c.in-Book.is (c.change.ensures (g.S.Shelf.texts c.args.inputs.now.first.now))
