-- The bounds of scripts, trace files and output buffers.
use Rattle.std.specs.Prelude.{ℕ, List, [], ◌∷◌, length, Result, nat_lt}
use Rattle.shelf.specs.Rows.{refusal}
use Rattle.script.specs.declared.fault.ScriptFault.{ScriptFault}
use Rattle.script.specs.declared.fault.ScriptFault.TheVariants.{LongFile, SmallBuffer}

-- the greatest length of a script and of a trace file
abbrev pub file_most : ℕ
file_most = 8192

-- the most bytes that one line shows
abbrev pub show_most : ℕ
show_most = 4000

-- the least length of an output buffer
abbrev pub buffer_least : ℕ
buffer_least = 4200

abbrev pub file_refusal : List ℕ → Result (Unit {0}) ScriptFault
file_refusal bytes = refusal ((LongFile, nat_lt file_most (length bytes)) ∷ [])

abbrev pub buffer_refusal : List ℕ → Result (Unit {0}) ScriptFault
buffer_refusal out = refusal ((SmallBuffer, nat_lt (length out) buffer_least) ∷ [])
