-- The items that a line's answer prints.
use Rattle.std.specs.Prelude.{ℕ, List, [], ◌∷◌, Some, None, Ok, Err, Result}
use Rattle.script.specs.declared.answer.Answer.{Answer}
use Rattle.script.specs.declared.answer.Answer.TheVariants.{Done, Kept, Found, Lines, Pairs, Shape}
use Rattle.script.specs.declared.fault.Fault.{Fault}
use Rattle.script.specs.declared.items.Item.{Item}
use Rattle.script.specs.declared.items.Item.TheVariants.{Word, Layer, Number}
use Rattle.script.specs.declared.items.Word.TheVariants as word

-- a fault: its row, its layer, the line and the column
abbrev pub fault_items : Fault → List Item
fault_items fault =
    Word word.Fault
    ∷ Number fault.row.number
    ∷ Layer fault.row.layer
    ∷ Number fault.line
    ∷ Number fault.column
    ∷ []

-- the most bytes that are printed for an answer, but for those that are shown: five items of at most 20 bytes, and a byte behind each
abbrev pub line_most : ℕ
line_most = 105

abbrev pub answer_items : Answer → List Item
answer_items Done = []
answer_items (Kept version made) = Word word.Kept ∷ Number version ∷ Word word.Made ∷ Number made ∷ []
answer_items (Found (Some place)) = Number place ∷ []
answer_items (Found None) = Word word.Nowhere ∷ []
answer_items (Lines count) = Number count ∷ []
answer_items (Pairs closings openings) = Number closings ∷ Number openings ∷ []
answer_items (Shape length height pieces) = Number length ∷ Number height ∷ Number pieces ∷ []

-- what is printed of a line: its answer, or the fault that refuses it
abbrev pub said : Result Answer Fault → List Item
said (Ok answer) = answer_items answer
said (Err fault) = fault_items fault
