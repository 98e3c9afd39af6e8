-- The plain book: byte strings alone.
use Rattle.std.specs.Prelude.{ℕ, suc, ◌+◌, Bool, true, false, cond, ◌&&◌, List, [], ◌∷◌, ◌++◌, map, length, take, drop, Some, None, Option, ◌==◌, slice_index_or}
use Rattle.std.specs.Option.{option_map, option_or, unwrap_or}
use Rattle.shelf.specs.Texts.{text, stretch}
use Rattle.model.specs.Calls.{Edit, put_piece, put_version, cut, crop, BookCall, open_version, edit, keep, toss, read, find, shape, Call, on_book, on_sheet, elsewhere}
use Rattle.model.specs.Answers.{Answer, unless, PlainTold, done, PlainTold.kept, PlainTold.bytes, PlainTold.found, long}
use Rattle.model.specs.Rows.{Lengths, first_row, plain_rows}

pub record Plain : Type 0 where
  pub strings : List (List ℕ)
  pub draft : Option (List ℕ)

-- string 0 is empty, and no draft is open
abbrev pub plain_new : Plain
plain_new = record { strings = [] ∷ []; draft = None }

abbrev pub string : Plain → ℕ → List ℕ
string p v = slice_index_or p.strings v []

abbrev pub plain_lengths : List (List ℕ) → Plain → Lengths
plain_lengths texts p = record { texts = map length texts; versions = map length p.strings; draft = option_map length p.draft }

abbrev pub begins_with : List ℕ → List ℕ → Bool
begins_with [] s = true
begins_with (x ∷ xs) [] = false
begins_with (x ∷ xs) (y ∷ ys) = x == y && begins_with xs ys

-- the first place where the pattern stands, the places of the string being counted from `at`
abbrev pub first_place : (pattern : List ℕ) (at : ℕ) → List ℕ → Option ℕ
first_place pattern at [] = None
first_place pattern at (y ∷ ys) = cond (begins_with pattern (y ∷ ys)) (Some at) (first_place pattern (suc at) ys)

abbrev pub plain_edit : List (List ℕ) → Plain → Edit → List ℕ → List ℕ
plain_edit texts p (put_piece place k from len) s = take place s ++ stretch from len (text texts k) ++ drop place s
plain_edit texts p (put_version place v) s = take place s ++ string p v ++ drop place s
plain_edit texts p (cut from len) s = take from s ++ drop (from + len) s
plain_edit texts p (crop from len) s = stretch from len s

-- the same strings with another draft, or with none
abbrev pub with_draft : Plain → Option (List ℕ) → Plain
with_draft p draft = record { strings = p.strings; draft = draft }

-- what an accepted call tells and leaves
abbrev pub plain_book_effect : List (List ℕ) → Plain → BookCall → PlainTold × Plain
plain_book_effect texts p (open_version v) = (done, with_draft p (Some (string p v)))
plain_book_effect texts p (edit e) = (done, with_draft p (Some (plain_edit texts p e (unwrap_or p.draft []))))
plain_book_effect texts p keep = (kept (length p.strings), record { strings = p.strings ++ unwrap_or p.draft [] ∷ []; draft = None })
plain_book_effect texts p toss = (done, with_draft p None)
plain_book_effect texts p (read v from len shown) = (bytes (stretch from len (string p v)), p)
plain_book_effect texts p (find v from pattern shown) = (found (first_place pattern from (drop from (string p v))), p)
plain_book_effect texts p (shape v) = (long (length (string p v)), p)

abbrev pub plain_effect : List (List ℕ) → Plain → Call → PlainTold × Plain
plain_effect texts p (on_book c) = plain_book_effect texts p c
plain_effect texts p (on_sheet sheet c) = (done, p)
plain_effect texts p elsewhere = (done, p)

-- `fed` is the row by which the real book refused the call, if strings do not decide that row
abbrev pub plain_step : List (List ℕ) → Plain → Call → (fed : Option ℕ) → Answer PlainTold × Plain
plain_step texts p c fed = unless (option_or (first_row (plain_rows (plain_lengths texts p) c)) fed) p (plain_effect texts p c)

-- the calls of a run, with what is fed at each
abbrev pub plain_run : List (List ℕ) → Plain → List Call → List (Option ℕ) → List (Answer PlainTold) × Plain
plain_run texts p [] fed = ([], p)
plain_run texts p (c ∷ calls) [] = ([], p)
plain_run texts p (c ∷ calls) (f ∷ fed) =
    let now = plain_step texts p c f in let later = plain_run texts now.1 calls fed in (now.0 ∷ later.0, later.1)
