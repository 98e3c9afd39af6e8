use Rattle.tree.proofs.Facts.{follow_the_rules}
use Rattle.tree.proofs.functions_follow_the_rules.Goals as goal

pub returns : goal.returns
returns c = follow_the_rules
