-- Frames as a sender lays them out, and what the check gives for them.
use Rattle.std.specs.Prelude.{◌≡◌, ℕ, zero, suc, ◌+◌, ◌/◌, ◌%◌, ◌≤◌, true, List, [], ◌∷◌, ◌++◌, length, Ok}
use Rattle.shelf.specs.declared.frame.Kind.{Kind}
use Rattle.shelf.specs.declared.frame.Kind.TheVariants.{Straight, Ring}
use Rattle.shelf.specs.Frames.{kind_number, start_fits, checked}
use Rattle.shelf.specs.Kinds.{ring_text}
use Rattle.shelf.specs.Texts.{limit}

-- a number in `count` bytes, the lowest first
abbrev pub in_bytes : (count n : ℕ) → List ℕ
in_bytes zero n = []
in_bytes (suc count) n = n % 256 ∷ in_bytes count (n / 256)

-- a length in 4 bytes, a kind in 2, and the body
abbrev pub frame : Kind → List ℕ → List ℕ
frame kind body = in_bytes 4 (length body) ++ in_bytes 2 (kind_number kind) ++ body

-- the start in 4 bytes, and the memory
abbrev pub ring_body : (start : ℕ) (memory : List ℕ) → List ℕ
ring_body start memory = in_bytes 4 start ++ memory

-- the frame of a text yields that text, and the frame of a ring the text that is read round it
pub record FramesYield : Type 0 where
  pub straight : (text : List ℕ) → length text ≤ limit → checked (frame Straight text) ≡ Ok (record { kind = Straight; text = text })
  pub ring : (start : ℕ) (memory : List ℕ) → length memory + 4 ≤ limit → start_fits start (length memory) ≡ true →
      checked (frame Ring (ring_body start memory)) ≡ Ok (record { kind = Ring; text = ring_text memory start })
