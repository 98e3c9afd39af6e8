use Rattle.model.proofs.Histories.{histories_go_on}
use Rattle.model.proofs.histories_go_on.Goals as goal

pub returns : goal.returns
returns g c = histories_go_on (record { value = g.R.Rule.value; joined = g.R.Rule.joined })
