use Rattle.model.proofs.Staying.{versions_stay}
use Rattle.model.proofs.kept_versions_stay.Goals as goal

pub returns : goal.returns
returns g c = versions_stay (record { value = g.R.Rule.value; joined = g.R.Rule.joined })
