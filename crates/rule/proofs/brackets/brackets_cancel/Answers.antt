use Rattle.rule.proofs.Cancelling.{cancelling}
use Rattle.rule.proofs.brackets.brackets_cancel.Goals as goal

pub returns : goal.returns
returns c = cancelling
