use Rattle.tree.proofs.Facts.{edits_count}
use Rattle.tree.proofs.edits_count_what_they_make.Goals as goal

pub returns : goal.returns
returns c = edits_count
