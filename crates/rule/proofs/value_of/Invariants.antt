use Rattle.std.proofs.Common.{◌≡◌, take}
use Rattle.rule.specs.Rule.{joined_bytes}
use Rattle.rule.proofs.value_of.Given as goal

abbrev pub invariant-loop-b : goal.invariant-loop-b
invariant-loop-b g l = l.value ≡ joined_bytes g.R.Rule.value g.R.Rule.joined (take l.b-index l.bytes)
