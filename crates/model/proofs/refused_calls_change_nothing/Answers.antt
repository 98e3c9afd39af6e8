use Rattle.model.proofs.Steps.{refusals_change_nothing}
use Rattle.model.proofs.refused_calls_change_nothing.Goals as goal

pub returns : goal.returns
returns g c = refusals_change_nothing (record { value = g.R.Rule.value; joined = g.R.Rule.joined })
