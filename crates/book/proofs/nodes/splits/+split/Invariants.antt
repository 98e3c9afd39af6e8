use Rattle.book.proofs.nodes.splits.+split.Given as goal

abbrev pub decreases-split : goal.decreases-split
decreases-split l = l.slot
