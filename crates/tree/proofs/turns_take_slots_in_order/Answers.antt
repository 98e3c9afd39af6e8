use Rattle.tree.proofs.Facts.{slots_in_order}
use Rattle.tree.proofs.turns_take_slots_in_order.Goals as goal

pub returns : goal.returns
returns c = slots_in_order
