-- A history is a list of calls made on a new book, or on a new book and its new sheets. It leads to what the calls leave.
use Rattle.std.specs.Prelude.{◌≡◌, ℕ, List, [], ◌∷◌, ◌++◌, map, Some, slice_set}
use Rattle.std.specs.List.{slice_get}
use Rattle.model.specs.Answers.{Answer, BookTold, SheetTold, Told, by_book, by_sheet}
use Rattle.model.specs.Book.{Book, new_book, book_step}
use Rattle.model.specs.Calls.{BookCall, SheetCall, Call, on_book, on_sheet}
use Rattle.model.specs.Runs.{State, new, mapped_answer, step, run}
use Rattle.model.specs.Sheet.{Rule, Sheet, new_sheet}

-- A book alone

-- the answers, and the book that is left at the end
abbrev pub run_book : List (List ℕ) → Book → List BookCall → List (Answer BookTold) × Book
run_book texts b [] = ([], b)
run_book texts b (c ∷ calls) =
    let now = book_step texts b c in let later = run_book texts now.1 calls in (now.0 ∷ later.0, later.1)

-- the calls on a new book are answered so, and lead to that book
abbrev pub BookLeadsTo : List (List ℕ) → (records : ℕ) → List BookCall → List (Answer BookTold) → Book → Type 0
BookLeadsTo texts records calls answers b = run_book texts (new_book texts records) calls ≡ (answers, b)

-- each history that leads to the book before a call, with that call and its answer added, leads to the book after it
pub record BookGoesOn (texts : List (List ℕ)) (b : Book) (c : BookCall) (a : Answer BookTold) (b' : Book) : Type 0 where
  pub goes_on : (records : ℕ) (calls : List BookCall) (answers : List (Answer BookTold)) →
      BookLeadsTo texts records calls answers b → BookLeadsTo texts records (calls ++ c ∷ []) (answers ++ a ∷ []) b'

-- A book and its sheets

module _ {V : Type 0} (texts : List (List ℕ)) (rule : Rule V) (records : ℕ) (sheets : List (List V)) where
  -- the calls on a new book and new sheets are answered so, and lead to that state
  abbrev pub LeadsTo : List Call → List (Answer (Told V)) → State V → Type 0
  LeadsTo calls answers s = run texts rule (new texts records sheets) calls ≡ (answers, s)

-- each history that leads to a state where the sheet of a call is as it is before the call, with that call and its answer
-- added, leads to the state where that sheet alone has changed, to what it is after the call
pub record SheetGoesOn {V : Type 0} (texts : List (List ℕ)) (rule : Rule V) (b : Book) (s : Sheet V) (c : SheetCall) (a : Answer (SheetTold V))
    (s' : Sheet V) : Type 0 where
  pub goes_on : (records : ℕ) (sheets : List (List V)) (calls : List Call) (answers : List (Answer (Told V))) (left : List (Sheet V)) (k : ℕ) →
      slice_get left k ≡ Some s → LeadsTo texts rule records sheets calls answers (record { book = b; sheets = left }) →
      LeadsTo texts rule records sheets (calls ++ on_sheet k c ∷ []) (answers ++ mapped_answer by_sheet a ∷ [])
      (record { book = b; sheets = slice_set left k s' })

-- What holds of histories, for a summary rule.
pub record HistoriesGoOn {V : Type 0} (rule : Rule V) : Type 0 where
  -- each history that leads to the state before a call, with that call added, leads to the state after it
  pub goes_on : (texts : List (List ℕ)) (records : ℕ) (sheets : List (List V)) (calls : List Call) (answers : List (Answer (Told V)))
      (s s' : State V) (c : Call) (a : Answer (Told V)) →
      LeadsTo texts rule records sheets calls answers s → step texts rule s c ≡ (a, s') →
      LeadsTo texts rule records sheets (calls ++ c ∷ []) (answers ++ a ∷ []) s'
  -- each history of a book alone is one of that book with any sheets, which it leaves new
  pub alone : (texts : List (List ℕ)) (records : ℕ) (sheets : List (List V)) (calls : List BookCall) (answers : List (Answer BookTold)) (b : Book) →
      BookLeadsTo texts records calls answers b →
      LeadsTo texts rule records sheets (map on_book calls) (map (mapped_answer by_book) answers)
      (record { book = b; sheets = map new_sheet sheets })
