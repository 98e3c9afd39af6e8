-- What is read for a sheet: stretches of texts.
use Rattle.std.specs.Prelude.{ℕ, ◌+◌, ◌<◌, ◌≤◌, List, length}
use Rattle.shelf.specs.Texts.{text}
use Rattle.model.specs.Sheet.{Rule}

-- `count` bytes from `from` on lie inside text k
pub record WithinText (texts : List (List ℕ)) (k from count : ℕ) : Type 0 where
  pub there : k < length texts
  pub ends : from + count ≤ length (text texts k)

-- a rule's meaning, as the machine's rule
abbrev pub rule_of : {V : Type 0} → (List ℕ → V) → (V → V → V) → Rule V
rule_of value joined = record { value = value; joined = joined }
