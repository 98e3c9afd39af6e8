use Rattle.model.proofs.Tables.{table_facts}
use Rattle.model.proofs.rows_are_decided.Goals as goal

pub returns : goal.returns
returns g c = table_facts
