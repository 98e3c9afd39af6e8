-- The calls on a book and on its sheets.
use Rattle.std.specs.Prelude.{ℕ, List}

-- A change of the draft. `place` is a place in the draft; `from` and `len` name a stretch of a text in `put_piece`, and of the draft elsewhere.
pub data Edit : Type 0 where
  put_piece : (place text from len : ℕ) → Edit
  put_version : (place version : ℕ) → Edit
  cut : (from len : ℕ) → Edit
  crop : (from len : ℕ) → Edit

-- `shown` are the lengths of the texts on the shelf that a call is handed.
pub data BookCall : Type 0 where
  open_version : (version : ℕ) → BookCall
  edit : Edit → BookCall
  keep : BookCall
  toss : BookCall
  read : (version from len : ℕ) (shown : List ℕ) → BookCall
  find : (version from : ℕ) (pattern shown : List ℕ) → BookCall
  shape : (version : ℕ) → BookCall

pub data SheetCall : Type 0 where
  bring_up : (shown : List ℕ) → SheetCall
  summary : (version from len : ℕ) (shown : List ℕ) → SheetCall

-- Sheets are numbered from 0. A call `elsewhere` is one on a sheet that serves another rule: it reads the book and changes nothing here.
pub data Call : Type 0 where
  on_book : BookCall → Call
  on_sheet : (sheet : ℕ) → SheetCall → Call
  elsewhere : Call
