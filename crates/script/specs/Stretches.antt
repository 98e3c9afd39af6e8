-- Stretches: parts of some bytes, by their first place and the place behind their last byte.
use Rattle.std.specs.Prelude.{ℕ, ◌-◌, ◌<◌, ◌≤◌, List, length}
use Rattle.shelf.specs.Texts.{stretch}
use Rattle.script.specs.declared.stretch.Stretch.{Stretch}

-- how many bytes a stretch has
abbrev pub count : Stretch → ℕ
count s = s.end - s.start

-- the bytes of a stretch
abbrev pub bytes_of : Stretch → List ℕ → List ℕ
bytes_of s whole = stretch s.start (count s) whole

-- a stretch has a byte, and lies in the bytes
pub record Inside (s : Stretch) (whole : List ℕ) : Type 0 where
  pub some : s.start < s.end
  pub within : s.end ≤ length whole
