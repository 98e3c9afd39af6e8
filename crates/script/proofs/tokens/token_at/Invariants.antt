use Rattle.std.proofs.Common.{◌≡◌, ◌+◌, drop}
use Rattle.script.specs.Tokens.{scan, within, tokens_from}
use Rattle.script.proofs.tokens.token_at.Given as goal

abbrev pub invariant-loop-i : goal.invariant-loop-i
invariant-loop-i l = tokens_from l.from l.text ≡ scan (within l.start l.quoted) (l.start + l.i) (drop l.i l.rest)
