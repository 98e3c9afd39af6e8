-- The tokens of a line: each ends at a space outside quotes, or at the line's end.
use Rattle.std.specs.Prelude.{ℕ, ◌+◌, Bool, cond, not, ◌&&◌, List, [], ◌∷◌, drop, ◌==◌}
use Rattle.script.specs.declared.stretch.Stretch.{Stretch}

abbrev pub space : ℕ
space = 0x20

abbrev pub is_space : ℕ → Bool
is_space byte = byte == space

abbrev pub quote : ℕ
quote = 0x22

-- a token ends before a space outside quotes
abbrev pub ends : (quoted : Bool) → ℕ → Bool
ends quoted byte = is_space byte && not quoted

-- a quote anywhere in a token opens one or closes the open one
abbrev pub turned : (quoted : Bool) → ℕ → Bool
turned quoted byte = cond (byte == quote) (not quoted) quoted

-- where a reader of a line stands: between two tokens, or in one that began at `start`, with a quote open or not
pub data State : Type 0 where
  between : State
  within : (start : ℕ) (quoted : Bool) → State

-- the tokens of what is left of a line, from the place `place` on
abbrev pub scan : State → (place : ℕ) → List ℕ → List Stretch
scan between place [] = []
scan between place (byte ∷ bytes) =
    cond (is_space byte) (scan between (place + 1) bytes) (scan (within place (byte == quote)) (place + 1) bytes)
scan (within start quoted) place [] = record { start = start; end = place } ∷ []
scan (within start quoted) place (byte ∷ bytes) =
    cond (ends quoted byte)
    (record { start = start; end = place } ∷ scan between (place + 1) bytes)
    (scan (within start (turned quoted byte)) (place + 1) bytes)

-- the tokens from a place on
abbrev pub tokens_from : ℕ → List ℕ → List Stretch
tokens_from place text = scan between place (drop place text)
