use Rattle.tree.proofs.Facts.{heights_bounded}
use Rattle.tree.proofs.heights_are_bounded.Goals as goal

pub returns : goal.returns
returns c = heights_bounded
