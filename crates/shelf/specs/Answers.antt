-- What the calls of a shelf answer, by its texts.
use Rattle.std.specs.Prelude.{ℕ, ◌+◌, Bool, cond, List, [], ◌∷◌, length, is_ok, Some, None, Option, Result, nat_le, nat_lt}
use Rattle.shelf.specs.declared.rows.Layer.TheVariants.{Book}
use Rattle.shelf.specs.declared.rows.Row.{Row}
use Rattle.shelf.specs.declared.texts.CopyFault.{CopyFault}
use Rattle.shelf.specs.declared.texts.CopyFault.TheVariants.{NoText, PastEnd}
use Rattle.shelf.specs.Rows.{refusal}
use Rattle.shelf.specs.Texts.{text, stretch}

-- the row of each fault of a copy
abbrev pub copy_row : CopyFault → Row
copy_row NoText = record { number = 8; layer = Book }
copy_row PastEnd = record { number = 9; layer = Book }

abbrev pub text_length : List (List ℕ) → ℕ → Option ℕ
text_length texts k = cond (nat_le (length texts) k) None (Some (length (text texts k)))

-- the faults of a copy of `count` bytes from place `from` of text k, each with a test of whether it fits
abbrev pub copy_rows : List (List ℕ) → (k from count : ℕ) → List (CopyFault × Bool)
copy_rows texts k from count = (NoText, nat_le (length texts) k) ∷ (PastEnd, nat_lt (length (text texts k)) (from + count)) ∷ []

abbrev pub copy_answer : List (List ℕ) → (k from count : ℕ) → Result (Unit {0}) CopyFault
copy_answer texts k from count = refusal (copy_rows texts k from count)

-- what a buffer that held `old` holds after the copy
abbrev pub copy_fills : List (List ℕ) → (k from : ℕ) → List ℕ → List ℕ
copy_fills texts k from old = cond (is_ok (copy_answer texts k from (length old))) (stretch from (length old) (text texts k)) old
