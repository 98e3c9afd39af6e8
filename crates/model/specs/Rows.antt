-- The rows that the lengths of strings decide, as tests, and the greatest numbers.
use Rattle.std.specs.Prelude.{ℕ, ◌+◌, Bool, cond, not, ◌||◌, List, [], ◌∷◌, length, is_some, Some, None, Option, ◌==◌, nat_le, nat_lt, slice_index}
use Rattle.std.specs.Option.{unwrap_or}
use Rattle.shelf.specs.Texts.{limit}
use Rattle.model.specs.Calls.{Edit, put_piece, put_version, cut, crop, BookCall, open_version, edit, keep, toss, read, find, shape, SheetCall, bring_up, summary, Call, on_book, on_sheet, elsewhere}

-- the greatest number of versions, version 0 counted
abbrev pub most_versions : ℕ
most_versions = 64

-- the greatest number of slots
abbrev pub most_slots : ℕ
most_slots = 65536

-- the greatest length of a pattern
abbrev pub longest_pattern : ℕ
longest_pattern = 256

-- the lengths of what a book holds
pub record Lengths : Type 0 where
  pub texts : List ℕ
  pub versions : List ℕ
  pub draft : Option ℕ

abbrev pub text_length : Lengths → ℕ → ℕ
text_length b k = slice_index b.texts k

abbrev pub version_length : Lengths → ℕ → ℕ
version_length b v = slice_index b.versions v

abbrev pub draft_length : Lengths → ℕ
draft_length b = unwrap_or b.draft 0

-- the causes of rows 5 to 9, 11, 13 and 14
abbrev pub not_kept : Lengths → (version : ℕ) → Bool
not_kept b v = nat_le (length b.versions) v

abbrev pub draft_open : Lengths → Bool
draft_open b = is_some b.draft

abbrev pub no_draft : Lengths → Bool
no_draft b = not (draft_open b)

abbrev pub no_text : Lengths → (text : ℕ) → Bool
no_text b k = nat_le (length b.texts) k

abbrev pub past_text : Lengths → (text end : ℕ) → Bool
past_text b k end = nat_lt (text_length b k) end

abbrev pub past_version : Lengths → (version end : ℕ) → Bool
past_version b v end = nat_lt (version_length b v) end

abbrev pub past_draft : Lengths → (end : ℕ) → Bool
past_draft b end = nat_lt (draft_length b) end

-- with `more` bytes the draft would pass the limit
abbrev pub too_long : Lengths → (more : ℕ) → Bool
too_long b more = nat_lt limit (draft_length b + more)

abbrev pub full : Lengths → Bool
full b = nat_le most_versions (length b.versions)

abbrev pub no_pattern : List ℕ → Bool
no_pattern pattern = length pattern == 0 || nat_lt longest_pattern (length pattern)

-- the first row of a list that fits
abbrev pub first_row : List (ℕ × Bool) → Option ℕ
first_row [] = None
first_row (row ∷ rows) = cond row.1 (Some row.0) (first_row rows)

abbrev pub edit_rows : Lengths → Edit → List (ℕ × Bool)
edit_rows b (put_piece place text from len) =
    (7, no_draft b)
    ∷ (8, no_text b text)
    ∷ (9, past_draft b place || past_text b text (from + len))
    ∷ (10, (len == 0))
    ∷ (11, too_long b len)
    ∷ []
edit_rows b (put_version place v) =
    (5, not_kept b v) ∷ (7, no_draft b) ∷ (9, past_draft b place) ∷ (11, too_long b (version_length b v)) ∷ []
edit_rows b (cut from len) = (7, no_draft b) ∷ (9, past_draft b (from + len)) ∷ []
edit_rows b (crop from len) = (7, no_draft b) ∷ (9, past_draft b (from + len)) ∷ []

abbrev pub book_rows : Lengths → BookCall → List (ℕ × Bool)
book_rows b (open_version v) = (5, not_kept b v) ∷ (6, draft_open b) ∷ []
book_rows b (edit e) = edit_rows b e
book_rows b keep = (7, no_draft b) ∷ (13, full b) ∷ []
book_rows b toss = (7, no_draft b) ∷ []
book_rows b (read v from len shown) = (5, not_kept b v) ∷ (9, past_version b v (from + len)) ∷ []
book_rows b (find v from pattern shown) = (5, not_kept b v) ∷ (9, past_version b v from) ∷ (14, no_pattern pattern) ∷ []
book_rows b (shape v) = (5, not_kept b v) ∷ []

abbrev pub sheet_rows : Lengths → SheetCall → List (ℕ × Bool)
sheet_rows b (bring_up shown) = []
sheet_rows b (summary v from len shown) = (5, not_kept b v) ∷ (9, past_version b v (from + len)) ∷ []

-- the rows of a call that strings decide
abbrev pub plain_rows : Lengths → Call → List (ℕ × Bool)
plain_rows b (on_book c) = book_rows b c
plain_rows b (on_sheet sheet c) = sheet_rows b c
plain_rows b elsewhere = []
