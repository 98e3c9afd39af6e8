-- The faults of each call stand in the order of their rows, so that the first that fits has the smallest number.
use Rattle.std.specs.Prelude.{◌≡◌, ℕ, Bool, List, [], ◌∷◌, map}
use Rattle.shelf.specs.declared.rows.Row.{Row}
use Rattle.shelf.specs.Answers.{copy_row, copy_rows}
use Rattle.shelf.specs.Frames.{frame_row, frame_rows}

abbrev numbers : {F : Type 0} → (F → Row) → List (F × Bool) → List ℕ
numbers row faults = map (λ fault. (row fault.0).number) faults

pub record RowsInOrder : Type 0 where
  pub copy : (texts : List (List ℕ)) (k from count : ℕ) → numbers copy_row (copy_rows texts k from count) ≡ 8 ∷ 9 ∷ []
  pub check : (frame : List ℕ) → numbers frame_row (frame_rows frame) ≡ 1 ∷ 2 ∷ 3 ∷ 4 ∷ []
