-- What calls leave as it was, in any book with any sheets.
use Rattle.std.specs.Prelude.{◌≡◌, ℕ, ◌≤◌, List, [], ◌∷◌, ◌++◌, map, length, take, None, ◌≢◌}
use Rattle.std.specs.List.{AllByRecursion}
use Rattle.model.specs.Calls.{BookCall, open_version, keep, toss, Call, on_book}
use Rattle.model.specs.Answers.{refused}
use Rattle.model.specs.Sheet.{Rule}
use Rattle.model.specs.Runs.{State, sheet, step, run}

-- no run of calls changes a version that is kept
abbrev pub VersionsStay : {V : Type 0} → Rule V → Type 0
VersionsStay {V} rule =
    (texts : List (List ℕ)) (s : State V) (calls : List Call) → take (length s.book.kept) (run texts rule s calls).1.book.kept ≡ s.book.kept

-- no run of calls lessens what a sheet covers
abbrev pub CoverageStays : {V : Type 0} → Rule V → Type 0
CoverageStays {V} rule =
    (texts : List (List ℕ)) (s : State V) (calls : List Call) (k : ℕ) → (sheet s k).covered ≤ (sheet (run texts rule s calls).1 k).covered

-- a refused call leaves the book and the sheets as they were
abbrev pub RefusalsChangeNothing : {V : Type 0} → Rule V → Type 0
RefusalsChangeNothing {V} rule =
    (texts : List (List ℕ)) (s : State V) (c : Call) (row : ℕ) → (step texts rule s c).0 ≡ refused row → (step texts rule s c).1 ≡ s

-- the call ends no draft
abbrev pub GoesOn : BookCall → Type 0
GoesOn c = (c ≢ keep) × (c ≢ toss)

-- where no draft is open: a version opened, any calls on the book that end no draft, and toss, leave all as it was
abbrev pub TossingUndoes : {V : Type 0} → Rule V → Type 0
TossingUndoes {V} rule =
    (texts : List (List ℕ)) (s : State V) (v : ℕ) (between : List BookCall) → s.book.draft ≡ None → AllByRecursion GoesOn between →
    (run texts rule s (on_book (open_version v) ∷ map on_book between ++ on_book toss ∷ [])).1 ≡ s
