-- The lines of a script: a byte 0x0A ends a line, and the last line may lack it.
use Rattle.std.specs.Prelude.{ℕ, ◌+◌, Bool, cond, List, [], ◌∷◌, drop, ◌==◌}
use Rattle.script.specs.declared.lines.Line.{Line}

-- the byte that ends a line
abbrev pub line_end : ℕ
line_end = 0x0A

abbrev pub ends_line : ℕ → Bool
ends_line byte = byte == line_end

-- The lines of what is left of a script, from the place `place` on. Line `number` has begun at `start`.
-- What stands behind the last 0x0A is a line only if it has a byte.
abbrev pub cut : (number start place : ℕ) → List ℕ → List Line
cut number start place [] = cond (start == place) [] (record { number = number; start = start; end = place } ∷ [])
cut number start place (byte ∷ bytes) =
    cond (ends_line byte)
    (record { number = number; start = start; end = place } ∷ cut (number + 1) (place + 1) (place + 1) bytes)
    (cut number start (place + 1) bytes)

-- the lines from a place on, of which the first has the number `number`
abbrev pub lines_from : (number place : ℕ) → List ℕ → List Line
lines_from number place script = cut number place place (drop place script)

-- the lines of a script, numbered from 1
abbrev pub lines : List ℕ → List Line
lines script = lines_from 1 0 script
