use Rattle.model.proofs.Law.{law}
use Rattle.model.proofs.law_of_kept_versions.Goals as goal

pub returns : goal.returns
returns g c = law (record { value = g.R.Rule.value; joined = g.R.Rule.joined }) g.met.R.Rule.joins
