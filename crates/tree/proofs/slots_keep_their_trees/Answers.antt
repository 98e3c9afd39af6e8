use Rattle.tree.proofs.Facts.{slots_keep}
use Rattle.tree.proofs.slots_keep_their_trees.Goals as goal

pub returns : goal.returns
returns c = slots_keep
