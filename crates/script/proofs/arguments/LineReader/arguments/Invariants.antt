use Rattle.std.proofs.Common.{◌≡◌, ◌≤◌, drop}
use Rattle.script.specs.Args.{outcome, filled}
use Rattle.script.specs.Arguments.{both, arguments}
use Rattle.script.specs.Names.{listed}
use Rattle.script.specs.Tokens.{tokens_from}
use Rattle.script.proofs.arguments.LineReader.arguments.Given as goal

abbrev pub invariant-loop-kind : goal.invariant-loop-kind
invariant-loop-kind l =
    (filled l.sofar ≤ l.kind-index)
    × (both (outcome l.sofar) (arguments (listed l.self.names.now) l.self.text.now l.self.line (drop l.kind-index l.kinds) (tokens_from l.place l.self.text.now))
    ≡ arguments (listed l.self.names.now) l.self.text.now l.self.line l.kinds (tokens_from l.from l.self.text.now))
