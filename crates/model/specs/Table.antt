-- The table of rows: those of each call in the order of their numbers, each with the condition under which it fits.
use Rattle.std.specs.Prelude.{◌≡◌, ℕ, ◌+◌, ◌<◌, ◌≤◌, Bool, ◌⊎◌, List, [], ◌∷◌, length, Some, None, Decides, Option}
use Rattle.shelf.specs.Texts.{limit}
use Rattle.tree.specs.Tree.{Tree, piece, node}
use Rattle.model.specs.Calls.{Edit, put_piece, put_version, cut, crop, BookCall, open_version, edit, keep, toss, read, find, shape, SheetCall, bring_up, summary, Call, on_book, on_sheet, elsewhere}
use Rattle.model.specs.Rows.{most_versions, longest_pattern, text_length, version_length, draft_length}
use Rattle.model.specs.Book.{Book, version, settled, lengths_of, made, free}
use Rattle.model.specs.Sheet.{Sheet}
use Rattle.model.specs.Runs.{State, sheet, rows}

abbrev pub HasValue : {A : Type 0} → Option A → Type 0
HasValue None = ⊥
HasValue (Some x) = Unit {0}

-- The causes of the rows.

abbrev pub NotKept : Book → (version : ℕ) → Type 0
NotKept b v = length (lengths_of b).versions ≤ v

abbrev pub DraftOpen : Book → Type 0
DraftOpen b = HasValue (lengths_of b).draft

abbrev pub NoDraft : Book → Type 0
NoDraft b = DraftOpen b → ⊥

abbrev pub NoText : Book → (text : ℕ) → Type 0
NoText b k = length (lengths_of b).texts ≤ k

-- a place or a stretch that ends at `end` reaches past the text, the version or the draft
abbrev pub PastText : Book → (text end : ℕ) → Type 0
PastText b k end = text_length (lengths_of b) k < end

abbrev pub PastVersion : Book → (version end : ℕ) → Type 0
PastVersion b v end = version_length (lengths_of b) v < end

abbrev pub PastDraft : Book → (end : ℕ) → Type 0
PastDraft b end = draft_length (lengths_of b) < end

-- with `more` bytes the draft would pass the limit
abbrev pub TooLong : Book → (more : ℕ) → Type 0
TooLong b more = limit < draft_length (lengths_of b) + more

-- the rules of trees take more slots than are free
abbrev pub NoRoom : Book → Edit → Type 0
NoRoom b e = free b < made b e

abbrev pub Full : Book → Type 0
Full b = most_versions ≤ length (lengths_of b).versions

abbrev pub NoPattern : List ℕ → Type 0
NoPattern pattern = (length pattern ≡ 0) ⊎ (longest_pattern < length pattern)

-- every slot of the tree is below n
abbrev pub CoveredTree : ℕ → Tree → Type 0
CoveredTree n (piece s k i m) = s < n
CoveredTree n (node s l r) = (s < n) × CoveredTree n l × CoveredTree n r

-- a sheet that covers n slots covers the version
abbrev pub Covered : ℕ → Option Tree → Type 0
Covered n None = Unit {0}
Covered n (Some t) = CoveredTree n t

-- the sheet leaves a slot of the version uncovered
abbrev pub Uncovered : {V : Type 0} → Book → Sheet V → (version : ℕ) → Type 0
Uncovered b t v = Covered t.covered (version b v) → ⊥

-- the sheet's list is shorter than the slots to cover, which are all in use but those of an open draft
abbrev pub TooShort : {V : Type 0} → Book → Sheet V → Type 0
TooShort b t = length t.values < settled b

-- the shelf's count or lengths are not the book's
abbrev pub OtherTexts : Book → (shown : List ℕ) → Type 0
OtherTexts b shown = shown ≡ b.lengths → ⊥

-- The table.

abbrev pub EditTable : Book → Edit → List (ℕ × Type 0)
EditTable b (put_piece place text from len) =
    (7, NoDraft b)
    ∷ (8, NoText b text)
    ∷ (9, PastDraft b place ⊎ PastText b text (from + len))
    ∷ (10, len ≡ 0)
    ∷ (11, TooLong b len)
    ∷ (12, NoRoom b (put_piece place text from len))
    ∷ []
EditTable b (put_version place v) =
    (5, NotKept b v)
    ∷ (7, NoDraft b)
    ∷ (9, PastDraft b place)
    ∷ (11, TooLong b (version_length (lengths_of b) v))
    ∷ (12, NoRoom b (put_version place v))
    ∷ []
EditTable b (cut from len) = (7, NoDraft b) ∷ (9, PastDraft b (from + len)) ∷ (12, NoRoom b (cut from len)) ∷ []
EditTable b (crop from len) = (7, NoDraft b) ∷ (9, PastDraft b (from + len)) ∷ (12, NoRoom b (crop from len)) ∷ []

abbrev pub BookTable : Book → BookCall → List (ℕ × Type 0)
BookTable b (open_version v) = (5, NotKept b v) ∷ (6, DraftOpen b) ∷ []
BookTable b (edit e) = EditTable b e
BookTable b keep = (7, NoDraft b) ∷ (13, Full b) ∷ []
BookTable b toss = (7, NoDraft b) ∷ []
BookTable b (read v from len shown) = (5, NotKept b v) ∷ (9, PastVersion b v (from + len)) ∷ (17, OtherTexts b shown) ∷ []
BookTable b (find v from pattern shown) =
    (5, NotKept b v) ∷ (9, PastVersion b v from) ∷ (14, NoPattern pattern) ∷ (17, OtherTexts b shown) ∷ []
BookTable b (shape v) = (5, NotKept b v) ∷ []

abbrev pub SheetTable : {V : Type 0} → Book → Sheet V → SheetCall → List (ℕ × Type 0)
SheetTable b t (bring_up shown) = (16, TooShort b t) ∷ (17, OtherTexts b shown) ∷ []
SheetTable b t (summary v from len shown) =
    (5, NotKept b v)
    ∷ (9, PastVersion b v (from + len))
    ∷ (15, Uncovered b t v)
    ∷ (17, OtherTexts b shown)
    ∷ []

abbrev pub Table : {V : Type 0} → State V → Call → List (ℕ × Type 0)
Table s (on_book c) = BookTable s.book c
Table s (on_sheet k c) = SheetTable s.book (sheet s k) c
Table s elsewhere = []

-- What the table means.

-- the row is the first of the list that fits, or none does
abbrev pub Smallest : List (ℕ × Type 0) → (row : Option ℕ) → Type 0
Smallest [] row = row ≡ None
Smallest (r ∷ table) row = (r.1 × (row ≡ Some r.0)) ⊎ ((r.1 → ⊥) × Smallest table row)

-- the numbers go up, so that the first row that fits has the smallest
abbrev pub Ascending : List (ℕ × Type 0) → Type 0
Ascending [] = Unit {0}
Ascending (r ∷ []) = Unit {0}
Ascending (r ∷ q ∷ table) = (r.0 < q.0) × Ascending (q ∷ table)

-- each test decides the condition of the same row
abbrev pub Decide : List (ℕ × Bool) → List (ℕ × Type 0) → Type 0
Decide [] [] = Unit {0}
Decide [] (r ∷ table) = ⊥
Decide (t ∷ tests) [] = ⊥
Decide (t ∷ tests) (r ∷ table) = (t.0 ≡ r.0) × Decides t.1 r.1 × Decide tests table

-- of every call, whatever the book and the sheets
pub record TableFacts (V : Type 0) : Type 0 where
  pub ascending : (s : State V) (c : Call) → Ascending (Table s c)
  pub decided : (s : State V) (c : Call) → Decide (rows s c) (Table s c)
