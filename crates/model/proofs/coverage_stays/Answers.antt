use Rattle.model.proofs.Staying.{coverage_stays}
use Rattle.model.proofs.coverage_stays.Goals as goal

pub returns : goal.returns
returns g c = coverage_stays (record { value = g.R.Rule.value; joined = g.R.Rule.joined })
