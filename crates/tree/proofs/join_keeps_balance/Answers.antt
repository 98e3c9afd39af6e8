use Rattle.tree.proofs.Facts.{join_keeps}
use Rattle.tree.proofs.join_keeps_balance.Goals as goal

pub returns : goal.returns
returns c = join_keeps
