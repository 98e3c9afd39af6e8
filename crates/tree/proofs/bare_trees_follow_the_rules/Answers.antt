use Rattle.tree.proofs.Bare.{follow_bare_rules}
use Rattle.tree.proofs.bare_trees_follow_the_rules.Goals as goal

pub returns : goal.returns
returns c = follow_bare_rules
