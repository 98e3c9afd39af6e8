use Rattle.tree.proofs.Facts.{edits_cost}
use Rattle.tree.proofs.edits_take_few_slots.Goals as goal

pub returns : goal.returns
returns c = edits_cost
