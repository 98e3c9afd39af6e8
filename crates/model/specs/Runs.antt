-- Runs: lists of calls on a book and its sheets, each made on what the one before left.
use Rattle.std.specs.Prelude.{ℕ, Bool, List, [], ◌∷◌, ◌++◌, map, slice_index_or, slice_set}
use Rattle.model.specs.Calls.{Call, on_book, on_sheet, elsewhere}
use Rattle.model.specs.Answers.{Answer, refused, accepted, Told, by_book, by_sheet}
use Rattle.model.specs.Rows.{plain_rows}
use Rattle.model.specs.Book.{Book, new_book, lengths_of, book_own_rows, book_step}
use Rattle.model.specs.Sheet.{Rule, Sheet, new_sheet, sheet_own_rows, sheet_step}

-- A book, and its sheets that serve the rule in question.
pub record State (V : Type 0) : Type 0 where
  pub book : Book
  pub sheets : List (Sheet V)

abbrev pub new : {V : Type 0} → List (List ℕ) → (records : ℕ) → (sheets : List (List V)) → State V
new texts records sheets = record { book = new_book texts records; sheets = map new_sheet sheets }

-- a number that no sheet has names a sheet of length 0
abbrev pub sheet : {V : Type 0} → State V → ℕ → Sheet V
sheet s k = slice_index_or s.sheets k (new_sheet [])

-- the rows that slots, sheets and shelves decide
abbrev pub own_rows : {V : Type 0} → State V → Call → List (ℕ × Bool)
own_rows s (on_book c) = book_own_rows s.book c
own_rows s (on_sheet k c) = sheet_own_rows s.book (sheet s k) c
own_rows s elsewhere = []

-- all rows of a call
abbrev pub rows : {V : Type 0} → State V → Call → List (ℕ × Bool)
rows s c = plain_rows (lengths_of s.book) c ++ own_rows s c

abbrev pub mapped_answer : {A B : Type 0} → (A → B) → Answer A → Answer B
mapped_answer f (refused row) = refused row
mapped_answer f (accepted told) = accepted (f told)

module _ {V : Type 0} (texts : List (List ℕ)) (rule : Rule V) where
  abbrev pub step : State V → Call → Answer (Told V) × State V
  step s (on_book c) =
      let r = book_step texts s.book c in (mapped_answer by_book r.0, record { book = r.1; sheets = s.sheets })
  step s (on_sheet k c) =
      let r = sheet_step texts rule s.book (sheet s k) c in
      (mapped_answer by_sheet r.0, record { book = s.book; sheets = slice_set s.sheets k r.1 })
  step s elsewhere = (accepted Told.elsewhere, s)

  -- the answers, and what is left at the end
  abbrev pub run : State V → List Call → List (Answer (Told V)) × State V
  run s [] = ([], s)
  run s (c ∷ calls) = let now = step s c in let later = run now.1 calls in (now.0 ∷ later.0, later.1)
