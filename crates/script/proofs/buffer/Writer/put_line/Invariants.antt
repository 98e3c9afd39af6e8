use Rattle.std.proofs.Common.{◌≡◌, ℕ, List, ◌++◌, drop}
use Rattle.script.specs.Buffers.{Wrote}
use Rattle.script.specs.Items.{printed}
use Rattle.script.proofs.buffer.Writer.put_line.Given as goal

-- what is written so far, with what is still to come, is the line
abbrev pub invariant-loop-i : goal.invariant-loop-i
invariant-loop-i l =
    (bytes : List ℕ)
    × Wrote bytes l.initial.self l.self
    × (bytes ++ printed (drop l.i l.items) ≡ printed l.items)
