-- Texts: what a shelf means, and what its calls answer by that meaning.
use Rattle.std.specs.Prelude.{ℕ, ◌≤◌, List, [], length, take, drop, slice_index_or}

-- the greatest length of a text, a version or a draft, in bytes
abbrev pub limit : ℕ
limit = 1073741824

-- the greatest number of texts on a shelf
abbrev pub most_texts : ℕ
most_texts = 8

-- text k, empty where there is none
abbrev pub text : List (List ℕ) → ℕ → List ℕ
text texts k = slice_index_or texts k []

-- `count` bytes from `from` on
abbrev pub stretch : (from count : ℕ) → List ℕ → List ℕ
stretch from count bytes = take count (drop from bytes)

-- what every shelf owes: at most eight texts, none above the limit
pub record Fit (texts : List (List ℕ)) : Type 0 where
  pub few : length texts ≤ most_texts
  pub short : (k : ℕ) → length (text texts k) ≤ limit
