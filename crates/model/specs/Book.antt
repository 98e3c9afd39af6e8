-- The book by trees and slots: what it holds, and what each call on it answers and leaves.
use Rattle.std.specs.Prelude.{ℕ, ◌-◌, min, Bool, true, false, not, ◌&&◌, List, [], ◌∷◌, ◌++◌, map, length, take, drop, Some, None, Option, ◌==◌, nat_lt, slice_index_or}
use Rattle.std.specs.Option.{option_map}
use Rattle.shelf.specs.Texts.{stretch}
use Rattle.tree.specs.Tree.{Tree, height, size, pieces}
use Rattle.tree.specs.Edits
use Rattle.tree.specs.Edits.{Made, spell_any, size_any}
use Rattle.model.specs.Calls.{Edit, put_piece, put_version, cut, crop, BookCall, open_version, edit, keep, toss, read, find, shape}
use Rattle.model.specs.Answers.{Answer, BookTold, unless}
use Rattle.model.specs.Rows.{Lengths, most_slots, first_row, book_rows}
use Rattle.model.specs.Plain.{first_place}

-- An open draft: its tree (none if it is empty), and the number of slots that were in use when it was opened.
pub record Draft : Type 0 where
  pub tree : Option Tree
  pub base : ℕ

-- The tree at each slot in use; the tree of each kept version; the draft, if one is open; the lengths of the texts as the
-- book noted them when it was opened; and the number of slots that there are.
pub record Book : Type 0 where
  pub slots : List Tree
  pub kept : List (Option Tree)
  pub draft : Option Draft
  pub lengths : List ℕ
  pub room : ℕ

-- a new book over the texts, on a list of `records` node records: version 0 is empty
abbrev pub new_book : List (List ℕ) → (records : ℕ) → Book
new_book texts records = record { slots = []; kept = None ∷ []; draft = None; lengths = map length texts; room = min records most_slots }

abbrev pub version : Book → ℕ → Option Tree
version b v = slice_index_or b.kept v None

abbrev pub tree_of : Option Draft → Option Tree
tree_of None = None
tree_of (Some d) = d.tree

abbrev pub lengths_of : Book → Lengths
lengths_of b = record { texts = b.lengths; versions = map size_any b.kept; draft = option_map (λ d. size_any d.tree) b.draft }

-- of `used` slots, those that no draft made
abbrev pub settled_of : (used : ℕ) → Option Draft → ℕ
settled_of used None = used
settled_of used (Some d) = d.base

abbrev pub settled : Book → ℕ
settled b = settled_of (length b.slots) b.draft

-- what an edit builds, by the rules of trees
abbrev pub built : Book → Edit → Made
built b (put_piece place text from len) = Edits.put_piece (length b.slots) (tree_of b.draft) place text from len
built b (put_version place v) = Edits.put_any (length b.slots) (tree_of b.draft) place (version b v)
built b (cut from len) = Edits.cut (length b.slots) (tree_of b.draft) from len
built b (crop from len) = Edits.crop (length b.slots) (tree_of b.draft) from len

-- how many slots an edit takes
abbrev pub made : Book → Edit → ℕ
made b e = length (built b e).new

abbrev pub free : Book → ℕ
free b = b.room - length b.slots

-- the two lists are the same
abbrev pub same : List ℕ → List ℕ → Bool
same [] [] = true
same [] (y ∷ ys) = false
same (x ∷ xs) [] = false
same (x ∷ xs) (y ∷ ys) = x == y && same xs ys

-- the rows that slots and shelves decide
abbrev pub book_own_rows : Book → BookCall → List (ℕ × Bool)
book_own_rows b (open_version v) = []
book_own_rows b (edit e) = (12, nat_lt (free b) (made b e)) ∷ []
book_own_rows b keep = []
book_own_rows b toss = []
book_own_rows b (read v from len shown) = (17, not (same shown b.lengths)) ∷ []
book_own_rows b (find v from pattern shown) = (17, not (same shown b.lengths)) ∷ []
book_own_rows b (shape v) = []

-- the same book with other slots in use and another draft, or none
abbrev pub with_draft : Book → List Tree → Option Draft → Book
with_draft b slots draft = record { slots = slots; kept = b.kept; draft = draft; lengths = b.lengths; room = b.room }

abbrev pub shape_of : Option Tree → BookTold
shape_of None = BookTold.shaped 0 0 0
shape_of (Some t) = BookTold.shaped (size t) (height t) (pieces t)

-- what an accepted call tells and leaves
abbrev pub book_effect : List (List ℕ) → Book → BookCall → BookTold × Book
book_effect texts b (open_version v) =
    (BookTold.opened, with_draft b b.slots (Some (record { tree = version b v; base = settled b })))
book_effect texts b (edit e) = (
  BookTold.edited (made b e),
  with_draft b (b.slots ++ (built b e).new) (Some (record { tree = (built b e).tree; base = settled b })),
)
book_effect texts b keep = (
  BookTold.kept (length b.kept) (length b.slots - settled b),
  record { slots = b.slots; kept = b.kept ++ tree_of b.draft ∷ []; draft = None; lengths = b.lengths; room = b.room },
)
book_effect texts b toss = (BookTold.tossed, with_draft b (take (settled b) b.slots) None)
book_effect texts b (read v from len shown) = (BookTold.bytes (stretch from len (spell_any texts (version b v))), b)
book_effect texts b (find v from pattern shown) =
    (BookTold.found (first_place pattern from (drop from (spell_any texts (version b v)))), b)
book_effect texts b (shape v) = (shape_of (version b v), b)

abbrev pub book_step : List (List ℕ) → Book → BookCall → Answer BookTold × Book
book_step texts b c = unless (first_row (book_rows (lengths_of b) c ++ book_own_rows b c)) b (book_effect texts b c)
