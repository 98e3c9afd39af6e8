use Rattle.tree.proofs.Facts.{join_adds}
use Rattle.tree.proofs.join_adds_up.Goals as goal

pub returns : goal.returns
returns c = join_adds
