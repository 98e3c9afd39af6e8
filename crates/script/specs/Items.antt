-- A printed line: items with one space between two, and 0x0A behind the last.
use Rattle.std.specs.Prelude.{ℕ, List, [], ◌∷◌, ◌++◌, codes, decimal}
use Rattle.shelf.specs.Rows.{layer_word}
use Rattle.script.specs.declared.items.Item.{Item}
use Rattle.script.specs.declared.items.Item.TheVariants as item
use Rattle.script.specs.declared.items.Word.{Word}
use Rattle.script.specs.declared.items.Word.TheVariants.{Kept, Made, Nowhere, Fault}
use Rattle.script.specs.Lines.{line_end}
use Rattle.script.specs.Tokens.{space}

abbrev pub word_letters : Word → List ℕ
word_letters Kept = codes "kept"
word_letters Made = codes "made"
word_letters Nowhere = codes "none"
word_letters Fault = codes "fault"

-- the bytes of an item; a number is in decimal
abbrev pub spelled : Item → List ℕ
spelled (item.Word word) = word_letters word
spelled (item.Layer layer) = layer_word layer
spelled (item.Number n) = decimal n

-- what stands behind an item, by those that follow
abbrev pub separator : List Item → ℕ
separator [] = line_end
separator (next ∷ items) = space

-- the line that items print; no items print nothing
abbrev pub printed : List Item → List ℕ
printed [] = []
printed (first ∷ items) = spelled first ++ separator items ∷ printed items
