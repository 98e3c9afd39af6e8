-- Rows of the table of refusals, in the order of their numbers: the first that fits answers.
use Rattle.std.specs.Prelude.{ℕ, Bool, cond, List, [], ◌∷◌, ◌++◌, Ok, Err, codes, decimal, Result}
use Rattle.shelf.specs.declared.rows.Layer.{Layer}
use Rattle.shelf.specs.declared.rows.Row.{Row}
use Rattle.shelf.specs.declared.rows.Layer.TheVariants.{Shelf, Book, Sheet, Script}

-- the word that is printed for a layer
abbrev pub layer_word : Layer → List ℕ
layer_word Shelf = codes "shelf"
layer_word Book = codes "book"
layer_word Sheet = codes "sheet"
layer_word Script = codes "script"

-- the words that are printed for a row
abbrev pub row_words : Row → List ℕ
row_words row = decimal row.number ++ (codes " " ++ layer_word row.layer)

-- the first fault whose test is passed refuses; where none is, nothing does
abbrev pub refusal : {F : Type 0} → List (F × Bool) → Result (Unit {0}) F
refusal [] = Ok tt
refusal (row ∷ rows) = cond row.1 (Err row.0) (refusal rows)

-- the value, unless there is a refusal
abbrev pub given : {A F : Type 0} → Result (Unit {0}) F → A → Result A F
given (Ok _) x = Ok x
given (Err fault) x = Err fault
