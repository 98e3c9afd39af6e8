use Rattle.std.proofs.Common.{◌+◌}
use Rattle.book.proofs.nodes.joins.+join.Given as goal

abbrev pub decreases-join : goal.decreases-join
decreases-join l = l.left + l.right
