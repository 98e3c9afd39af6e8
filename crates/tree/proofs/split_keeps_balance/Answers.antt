use Rattle.tree.proofs.Facts.{split_keeps}
use Rattle.tree.proofs.split_keeps_balance.Goals as goal

pub returns : goal.returns
returns c = split_keeps
