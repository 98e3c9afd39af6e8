-- Two worked runs of calls, with the rule Brackets.
use Rattle.std.specs.Prelude.{◌≡◌, ℕ, List, [], ◌∷◌, ◌++◌, map, length, replicate, Some, None, codes}
use Rattle.rule.specs.declared.brackets.Unmatched.{Unmatched}
use Rattle.rule.specs.Brackets.{unmatched, joined_unmatched}
use Rattle.model.specs.Calls.{put_piece, put_version, cut, crop, open_version, edit, keep, toss, read, find, shape, bring_up, summary, Call, on_book, on_sheet}
use Rattle.model.specs.Answers.{Answer, refused, accepted, BookTold, opened, edited, tossed, shaped, SheetTold, Told, by_book, by_sheet}
use Rattle.model.specs.Runs.{new, run}

abbrev texts : List (List ℕ)
texts = (codes "home(3)" ++ 0x0A ∷ []) ∷ []

abbrev shown : List ℕ
shown = map length texts

abbrev book : BookTold → Answer (Told Unmatched)
book told = accepted (by_book told)

abbrev sheet : SheetTold Unmatched → Answer (Told Unmatched)
sheet told = accepted (by_sheet told)

abbrev empty : Unmatched
empty = record { closings = 0; openings = 0 }

-- a version is made of three pieces, asked about, and put where no draft is open; each call stands with its answer
abbrev questions : List (Call × Answer (Told Unmatched))
questions =
    (on_book (open_version 0), book opened)
    ∷ (on_book (edit (put_piece 0 0 0 4)), book (edited 1))
    ∷ (on_book (edit (put_piece 4 0 4 3)), book (edited 2))
    ∷ (on_book (edit (put_piece 4 0 7 1)), book (edited 3))
    ∷ (on_book keep, book (BookTold.kept 1 6))
    ∷ (on_book (shape 1), book (shaped 8 2 3))
    ∷ (on_book (read 1 0 8 shown), book (BookTold.bytes (codes "home" ++ 0x0A ∷ codes "(3)")))
    ∷ (on_sheet 0 (bring_up shown), sheet (SheetTold.added 6))
    ∷ (on_sheet 0 (summary 1 4 3 shown), sheet (SheetTold.value (record { closings = 0; openings = 1 })))
    ∷ (on_book (find 1 0 (codes "(") shown), book (BookTold.found (Some 5)))
    ∷ (on_book (edit (put_version 0 1)), refused 7)
    ∷ []

-- three slots, and a sheet of two values
abbrev refusals : List (Call × Answer (Told Unmatched))
refusals =
    (on_book (open_version 1), refused 5)
    ∷ (on_book toss, refused 7)
    ∷ (on_book (open_version 0), book opened)
    ∷ (on_book (open_version 0), refused 6)
    ∷ (on_book (edit (put_piece 0 1 0 1)), refused 8)
    ∷ (on_book (edit (put_piece 1 0 0 0)), refused 9)
    ∷ (on_book (edit (put_piece 0 0 8 0)), refused 10)
    ∷ (on_book (edit (put_piece 0 0 0 8)), book (edited 1))
    ∷ (on_book (edit (put_piece 8 0 0 1)), book (edited 2))
    ∷ (on_book (edit (put_piece 9 0 0 1)), refused 12)
    ∷ (on_book (edit (cut 10 0)), refused 9)
    ∷ (on_book (edit (cut 9 0)), book (edited 0))
    ∷ (on_sheet 0 (bring_up shown), sheet (SheetTold.added 0))
    ∷ (on_book keep, book (BookTold.kept 1 3))
    ∷ (on_sheet 0 (bring_up shown), refused 16)
    ∷ (on_sheet 0 (summary 1 0 0 shown), refused 15)
    ∷ (on_sheet 0 (summary 1 5 5 shown), refused 9)
    ∷ (on_sheet 0 (summary 0 0 0 shown), sheet (SheetTold.value empty))
    ∷ (on_book (find 1 9 (codes "h") shown), book (BookTold.found None))
    ∷ (on_book (find 1 10 [] shown), refused 9)
    ∷ (on_book (find 1 0 [] []), refused 14)
    ∷ (on_book (read 1 0 9 []), refused 17)
    ∷ (on_book (open_version 1), book opened)
    ∷ (on_book (edit (crop 0 0)), book (edited 0))
    ∷ (on_book toss, book tossed)
    ∷ []

-- the calls are answered so, on a list of `records` node records and a sheet of `values` values
abbrev Answered : (records values : ℕ) → List (Call × Answer (Told Unmatched)) → Type 0
Answered records values sample =
    (run texts (record { value = unmatched; joined = joined_unmatched }) (new texts records (replicate values empty ∷ [])) (map (λ x. x.0) sample)).0
    ≡ map (λ x. x.1) sample

pub record SampleRuns : Type 0 where
  pub questions_answered : Answered 1024 1024 questions
  pub refusals_answered : Answered 3 2 refusals
