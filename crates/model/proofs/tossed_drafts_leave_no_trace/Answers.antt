use Rattle.model.proofs.Tossing.{tossing_undoes}
use Rattle.model.proofs.tossed_drafts_leave_no_trace.Goals as goal

pub returns : goal.returns
returns g c = tossing_undoes (record { value = g.R.Rule.value; joined = g.R.Rule.joined })
