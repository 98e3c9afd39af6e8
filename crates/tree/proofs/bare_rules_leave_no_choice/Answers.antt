use Rattle.tree.proofs.Outcome.{one_outcome}
use Rattle.tree.proofs.bare_rules_leave_no_choice.Goals as goal

pub returns : goal.returns
returns c = one_outcome
