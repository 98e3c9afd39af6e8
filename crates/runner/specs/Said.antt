-- What is printed of an answer, and the row and the layer of a refusal.
use Rattle.std.specs.Prelude.{ℕ, cond, ◌||◌, List, [], ◌∷◌, ◌++◌, Ok, Err, Result, ◌==◌, nat_lt}
use Rattle.shelf.specs.declared.rows.Layer.{Layer}
use Rattle.shelf.specs.declared.rows.Layer.TheVariants as layers
use Rattle.shelf.specs.declared.rows.Row.{Row}
use Rattle.rule.specs.declared.brackets.Unmatched.{Unmatched}
use Rattle.model.specs.Answers.{Answer, refused, accepted, BookTold, SheetTold}
use Rattle.script.specs.declared.answer.Answer as answer
use Rattle.script.specs.declared.answer.Answer.TheVariants as answers
use Rattle.script.specs.Answers.{said}
use Rattle.script.specs.Items.{printed}
use Rattle.script.specs.Lines.{line_end}

-- the layer of a row, by its number: 15 and 16 are of the sheet
abbrev pub layer_of : ℕ → Layer
layer_of n =
    cond (nat_lt n 5) layers.Shelf (cond (n == 15 || n == 16) layers.Sheet (cond (nat_lt n 18) layers.Book layers.Script))

abbrev pub row_numbered : ℕ → Row
row_numbered n = record { number = n; layer = layer_of n }

-- a line that prints an answer, of which the bytes that are shown are no part
abbrev pub line_of : answer.Answer → List ℕ
line_of answer = printed (said (Ok answer))

-- the changes print nothing, but keep does; what is shown has a line end behind it
abbrev pub book_said : BookTold → List ℕ
book_said BookTold.opened = []
book_said (BookTold.edited made) = []
book_said (BookTold.kept version made) = line_of (answers.Kept version made)
book_said BookTold.tossed = []
book_said (BookTold.bytes bytes) = bytes ++ line_end ∷ []
book_said (BookTold.found place) = line_of (answers.Found place)
book_said (BookTold.shaped length height pieces) = line_of (answers.Shape length height pieces)

-- of a sheet, by the answer that is printed for a value
abbrev pub sheet_said : {V : Type 0} → (V → answer.Answer) → SheetTold V → List ℕ
sheet_said answer_of (SheetTold.added slots) = []
sheet_said answer_of (SheetTold.value v) = line_of (answer_of v)

abbrev pub lines_answer : ℕ → answer.Answer
lines_answer count = answers.Lines count

abbrev pub pairs_answer : Unmatched → answer.Answer
pairs_answer u = answers.Pairs u.closings u.openings

-- the bytes that an answer prints, or the row that refuses
abbrev pub outcome : {A : Type 0} → (A → List ℕ) → Answer A → Result (List ℕ) Row
outcome say (refused row) = Err (row_numbered row)
outcome say (accepted told) = Ok (say told)
