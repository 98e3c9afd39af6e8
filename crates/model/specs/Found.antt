-- What find answers: the first place at or after a place where the pattern stands.
use Rattle.std.specs.Prelude.{◌≡◌, ℕ, ◌<◌, ◌≤◌, List, length, take, drop, Some, None, Option, ◌≢◌}
use Rattle.model.specs.Plain.{first_place}

-- the pattern stands at place k of the string
abbrev pub StandsAt : (pattern string : List ℕ) → ℕ → Type 0
StandsAt pattern string k = take (length pattern) (drop k string) ≡ pattern

-- the answer is the least place at or after `from` where the pattern stands, or none where there is no such place
abbrev pub Found : (string : List ℕ) (from : ℕ) (pattern : List ℕ) → Option ℕ → Type 0
Found string from pattern None = (k : ℕ) → from ≤ k → StandsAt pattern string k → ⊥
Found string from pattern (Some k) =
    (from ≤ k) × StandsAt pattern string k × ((j : ℕ) → from ≤ j → j < k → StandsAt pattern string j → ⊥)

-- of every pattern of one byte at least, in every string
abbrev pub FindsTheFirst : Type 0
FindsTheFirst =
    (pattern string : List ℕ) (from : ℕ) → (length pattern ≢ 0) → Found string from pattern (first_place pattern from (drop from string))
