-- A run one call longer.
use Rattle.std.proofs.Common.{◌≡◌, ℕ, List, [], ◌∷◌, ◌++◌, map, set, Some, refl, ap, ◌∙◌}
use Rattle.std.specs.List.{slice_get}
use Rattle.std.proofs.lemmas.Option.{get_or_from_slice_get}
use Rattle.model.specs.Answers.{Answer, BookTold, SheetTold, Told, by_book, by_sheet}
use Rattle.model.specs.Book.{Book, new_book, book_step}
use Rattle.model.specs.Calls.{BookCall, SheetCall, Call, on_book, on_sheet}
use Rattle.model.specs.Histories.{run_book, BookGoesOn, SheetGoesOn, HistoriesGoOn}
use Rattle.model.specs.Runs.{State, new, mapped_answer, step, run}
use Rattle.model.specs.Sheet.{Rule, Sheet, new_sheet, sheet_step}

module _ (texts : List (List ℕ)) where
  run_book_push : (b : Book) (calls : List BookCall) (c : BookCall) →
      ◌≡◌ {A = List (Answer BookTold) × Book} (run_book texts b (calls ++ c ∷ []))
      ((run_book texts b calls).0 ++ (book_step texts (run_book texts b calls).1 c).0 ∷ [], (book_step texts (run_book texts b calls).1 c).1)
  run_book_push b [] c = refl
  run_book_push b (x ∷ calls) c =
      ap (λ (r : List (Answer BookTold) × Book). ((book_step texts b x).0 ∷ r.0, r.1)) (run_book_push (book_step texts b x).1 calls c)

pub book_goes_on : {texts : List (List ℕ)} {b : Book} {c : BookCall} {a : Answer BookTold} {b' : Book} →
    book_step texts b c ≡ (a, b') → BookGoesOn texts b c a b'
book_goes_on {texts} {b} {c} {a} {b'} one =
    record {
      goes_on = λ records calls answers before.
          run_book_push texts (new_book texts records) calls c
          ∙ ap (λ (r : List (Answer BookTold) × Book). (r.0 ++ (book_step texts r.1 c).0 ∷ [], (book_step texts r.1 c).1)) before
          ∙ ap (λ (r : Answer BookTold × Book). (answers ++ r.0 ∷ [], r.1)) one;
    }

-- what a call on a book promises, from its step whatever the texts
pub with_history : {b b' : Book} {c : BookCall} {a : Answer BookTold} → ((texts : List (List ℕ)) → book_step texts b c ≡ (a, b')) →
    record { steps : (texts : List (List ℕ)) → book_step texts b c ≡ (a, b'); history : (texts : List (List ℕ)) → BookGoesOn texts b c a b' }
with_history steps = record { steps = steps; history = λ texts. book_goes_on (steps texts) }

module _ {V : Type 0} (texts : List (List ℕ)) (rule : Rule V) where
  run_push : (s : State V) (calls : List Call) (c : Call) →
      ◌≡◌ {A = List (Answer (Told V)) × State V} (run texts rule s (calls ++ c ∷ []))
      ((run texts rule s calls).0 ++ (step texts rule (run texts rule s calls).1 c).0 ∷ [], (step texts rule (run texts rule s calls).1 c).1)
  run_push s [] c = refl
  run_push s (x ∷ calls) c =
      ap (λ (r : List (Answer (Told V)) × State V). ((step texts rule s x).0 ∷ r.0, r.1)) (run_push (step texts rule s x).1 calls c)

  go_on : (start s s' : State V) (calls : List Call) (answers : List (Answer (Told V))) (c : Call) (a : Answer (Told V)) →
      run texts rule start calls ≡ (answers, s) → step texts rule s c ≡ (a, s') → run texts rule start (calls ++ c ∷ []) ≡ (answers ++ a ∷ [], s')
  go_on start s s' calls answers c a before one =
      run_push start calls c
      ∙ ap (λ (r : List (Answer (Told V)) × State V). (r.0 ++ (step texts rule r.1 c).0 ∷ [], (step texts rule r.1 c).1)) before
      ∙ ap (λ (r : Answer (Told V) × State V). (answers ++ r.0 ∷ [], r.1)) one

  -- a step of one sheet is a step of the book with all its sheets
  step_of : (b : Book) (s s' : Sheet V) (c : SheetCall) (a : Answer (SheetTold V)) (left : List (Sheet V)) (k : ℕ) →
      slice_get left k ≡ Some s → sheet_step texts rule b s c ≡ (a, s') →
      step texts rule (record { book = b; sheets = left }) (on_sheet k c) ≡ (mapped_answer by_sheet a, record { book = b; sheets = set left k s' })
  step_of b s s' c a left k there one =
      ap (λ (r : Answer (SheetTold V) × Sheet V). (mapped_answer by_sheet r.0, record { book = b; sheets = set left k r.1 }))
      (ap (λ (x : Sheet V). sheet_step texts rule b x c) (get_or_from_slice_get left k s (new_sheet []) there) ∙ one)

  -- a run of calls on the book leaves the sheets as they are
  run_alone : (b : Book) (left : List (Sheet V)) (calls : List BookCall) →
      run texts rule (record { book = b; sheets = left }) (map on_book calls)
      ≡ (map (mapped_answer by_book) (run_book texts b calls).0, record { book = (run_book texts b calls).1; sheets = left })
  run_alone b left [] = refl
  run_alone b left (c ∷ calls) =
      ap (λ (r : List (Answer (Told V)) × State V). (mapped_answer by_book (book_step texts b c).0 ∷ r.0, r.1)) (run_alone (book_step texts b c).1 left calls)

module _ {V : Type 0} {texts : List (List ℕ)} {rule : Rule V} {b : Book} {s s' : Sheet V} {c : SheetCall} {a : Answer (SheetTold V)} where
  pub sheet_goes_on : sheet_step texts rule b s c ≡ (a, s') → SheetGoesOn texts rule b s c a s'
  sheet_goes_on one =
      record {
        goes_on = λ records sheets calls answers left k there before.
            go_on texts rule (new texts records sheets) (record { book = b; sheets = left }) (record { book = b; sheets = set left k s' })
            calls answers (on_sheet k c) (mapped_answer by_sheet a) before (step_of texts rule b s s' c a left k there one);
      }

  -- what a call on a sheet promises, from its step
  pub sheet_with_history : sheet_step texts rule b s c ≡ (a, s') →
      record { steps : sheet_step texts rule b s c ≡ (a, s'); history : SheetGoesOn texts rule b s c a s' }
  sheet_with_history one = record { steps = one; history = sheet_goes_on one }

pub histories_go_on : {V : Type 0} (rule : Rule V) → HistoriesGoOn rule
histories_go_on {V} rule =
    record {
      goes_on = λ texts records sheets calls answers s s' c a before one. go_on texts rule (new texts records sheets) s s' calls answers c a before one;
      alone = λ texts records sheets calls answers b before.
          run_alone texts rule (new_book texts records) (map new_sheet sheets) calls
          ∙ ap (λ (r : List (Answer BookTold) × Book). (map (mapped_answer by_book) r.0, record { book = r.1; sheets = map new_sheet sheets })) before;
    }
