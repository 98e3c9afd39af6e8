-- The law of kept versions: what holds of every run of calls on a book and its sheets.
use Rattle.std.specs.Prelude.{◌≡◌, ℕ, ◌+◌, ◌<◌, ◌≤◌, min, ◌⊎◌, ◌↔◌, List, [], ◌∷◌, map, length, Some, None, Option}
use Rattle.std.specs.Option.{option_map}
use Rattle.std.specs.List.{AllByRecursion}
use Rattle.shelf.specs.Texts.{limit, stretch}
use Rattle.tree.specs.Tree.{Tree, height, pieces, Balanced}
use Rattle.tree.specs.Edits.{spell_any}
use Rattle.tree.specs.Fib.{fib}
use Rattle.model.specs.Calls.{bring_up, summary, Call, on_sheet}
use Rattle.model.specs.Answers.{Answer, accepted, refused, Told, by_sheet, SheetTold, row_of, plain_answer, fed, PlainTold}
use Rattle.model.specs.Rows.{most_versions, most_slots}
use Rattle.model.specs.Plain.{Plain, plain_new, string, plain_step, plain_run}
use Rattle.model.specs.Book.{version}
use Rattle.model.specs.Sheet.{Rule}
use Rattle.model.specs.Runs.{State, new, sheet, step, run}
use Rattle.model.specs.Table.{Table, Smallest, Covered}
use Rattle.model.specs.Trees.{TreeBook, new_trees, forgotten, AllowsRun}
use Rattle.model.specs.Tally.{nothing, tally, Counted}

-- A version that is not empty is balanced, so it has many pieces for its height, and little height.
abbrev pub Low : Option Tree → Type 0
Low None = Unit {0}
Low (Some t) = Balanced t × (fib (height t + 2) ≤ pieces t) × (height t ≤ 42)

-- the rows that strings decide: 5 to 11, 13 and 14
abbrev pub PlainRow : ℕ → Type 0
PlainRow row = ((5 ≤ row) × (row ≤ 11)) ⊎ ((row ≡ 13) ⊎ (row ≡ 14))

module _ {V : Type 0} (texts : List (List ℕ)) (rule : Rule V) where
  abbrev pub answer : State V → Call → Answer (Told V)
  answer s c = (step texts rule s c).0

  abbrev pub after : State V → Call → State V
  after s c = (step texts rule s c).1

  -- What holds of one call `c`, where `s` are the book and its sheets before it, and `p` is the plain book before it.

  -- the smallest row whose condition holds refuses the call, and where none holds it is accepted
  abbrev pub RefusedBySmallest : State V → Plain → Call → Type 0
  RefusedBySmallest s p c = Smallest (Table s c) (row_of (answer s c))

  -- by the rows that strings decide both books refuse the same calls, and for that the plain book need not be fed anything
  abbrev pub RefusedByBoth : State V → Plain → Call → Type 0
  RefusedByBoth s p c = (row : ℕ) → (answer s c ≡ refused row) × PlainRow row ↔ (plain_step texts p c None).0 ≡ refused row

  -- an accepted bring-up of a sheet adds as many slots as it answers, and then every version that is kept is covered
  abbrev pub CoversAll : State V → Plain → Call → Type 0
  CoversAll s p c =
      (k n : ℕ) (shown : List ℕ) → c ≡ on_sheet k (bring_up shown) → answer s c ≡ accepted (by_sheet (SheetTold.added n)) →
      ((sheet (after s c) k).covered ≡ (sheet s k).covered + n) × AllByRecursion (Covered (sheet (after s c) k).covered) (after s c).book.kept

  -- a version that a sheet covers stays covered by it
  abbrev pub StaysCovered : State V → Plain → Call → Type 0
  StaysCovered s p c =
      (k v : ℕ) → v < length s.book.kept → Covered (sheet s k).covered (version s.book v) →
      Covered (sheet (after s c) k).covered (version (after s c).book v)

  -- a value told for a stretch of a version is the rule's value of the plain book's bytes there
  abbrev pub TellsValue : State V → Plain → Call → Type 0
  TellsValue s p c =
      (k v from len : ℕ) (shown : List ℕ) (x : V) → c ≡ on_sheet k (summary v from len shown) → answer s c ≡ accepted (by_sheet (SheetTold.value x)) →
      x ≡ rule.value (stretch from len (string p v))

  -- P holds of every call of a run
  abbrev pub EveryCall : (P : State V → Plain → Call → Type 0) → State V → Plain → List Call → Type 0
  EveryCall P s p [] = Unit {0}
  EveryCall P s p (c ∷ calls) = P s p c × EveryCall P (after s c) (plain_step texts p c (fed (answer s c))).1 calls

  -- Runs of `calls` on a new book, which has a list of `records` node records, and on new sheets with lists of values.
  module _ (records : ℕ) (sheets : List (List V)) (calls : List Call) where
    abbrev pub start : State V
    start = new texts records sheets

    -- the answers of the run, and what it leaves
    abbrev pub answers : List (Answer (Told V))
    answers = (run texts rule start calls).0

    abbrev pub end : State V
    end = (run texts rule start calls).1

    -- the plain book's answers to the same calls, and what they leave: it is fed with the refusals that strings do not decide
    abbrev pub plain_answers : List (Answer PlainTold)
    plain_answers = (plain_run texts plain_new calls (map fed answers)).0

    abbrev pub plain_end : Plain
    plain_end = (plain_run texts plain_new calls (map fed answers)).1

    pub record Strings : Type 0 where
      -- each kept version spells the plain book's string of its number, and there are as many; and so does the draft
      pub versions : map (spell_any texts) end.book.kept ≡ plain_end.strings
      pub draft : option_map (λ d. spell_any texts d.tree) end.book.draft ≡ plain_end.draft
      -- call by call, both books tell the same bytes, places, lengths and numbers of versions, and refuse by the same rows
      pub alike : map plain_answer answers ≡ plain_answers
      pub same_rows : EveryCall RefusedByBoth start plain_new calls
      pub rows : EveryCall RefusedBySmallest start plain_new calls
      -- the lengths that the book compares a shelf with are those of the texts; versions are few, and none is too long
      pub noted : end.book.lengths ≡ map length texts
      pub few : length end.book.kept ≤ most_versions
      pub short : AllByRecursion (λ s. length s ≤ limit) plain_end.strings

    pub record Trees : Type 0 where
      -- the versions and the draft, their slots forgotten, are what the rules of trees allow for these calls and answers, and nothing else is
      pub allowed : (b : TreeBook) → AllowsRun new_trees calls answers b ↔ b ≡ forgotten end.book
      pub low : AllByRecursion Low end.book.kept
      -- the slots in use, by which row 12 goes, are those that the answers count, and no more than there are
      pub counted : Counted (tally nothing answers) end.book
      pub in_room : length end.book.slots ≤ end.book.room
      pub room : end.book.room ≡ min records most_slots

    pub record Summaries : Type 0 where
      pub covers : EveryCall CoversAll start plain_new calls
      pub stays : EveryCall StaysCovered start plain_new calls
      pub tells : EveryCall TellsValue start plain_new calls

    pub record KeptVersions : Type 0 where
      pub strings : Strings
      pub trees : Trees
      pub summaries : Summaries

-- For all texts, any length of the node list, any number of sheets of any lengths, and all calls.
abbrev pub Law : {V : Type 0} → Rule V → Type 0
Law {V} rule =
    (texts : List (List ℕ)) (records : ℕ) (sheets : List (List V)) (calls : List Call) → KeptVersions texts rule records sheets calls
