use Rattle.ask.proofs.fill.+fill.Given as goal

-- the sides of a node stand in earlier slots
abbrev pub decreases-fill : goal.decreases-fill
decreases-fill g l = l.slot
