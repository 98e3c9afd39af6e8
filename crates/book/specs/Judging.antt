-- Edits as calls give them: the machine's edits, and what their tests answer.
use Rattle.std.specs.Prelude.{◌≡◌, ℕ, ◌+◌, ◌<◌, ◌≤◌, List, [], length, Some, None, Result, MatchResult, slice_index}
use Rattle.shelf.specs.Texts.{limit}
use Rattle.tree.specs.Edits.{size_any}
use Rattle.model.specs.Book.{lengths_of, built}
use Rattle.model.specs.Calls.{Edit, put_piece, put_version, cut, crop}
use Rattle.model.specs.Rows.{Lengths, first_row, edit_rows}
use Rattle.book.specs.declared.contents.Contents.{Contents}
use Rattle.book.specs.declared.contents.OpenDraft.{OpenDraft}
use Rattle.book.specs.declared.edit.Edit as call
use Rattle.book.specs.declared.edit.Edit.TheVariants.{PutPiece, PutVersion, Cut, Crop}
use Rattle.book.specs.declared.fault.BookFault.{BookFault}
use Rattle.book.specs.declared.fault.BookFault.TheVariants.{NoDraft, PastEnd}
use Rattle.book.specs.declared.node.Change.{Change}
use Rattle.book.specs.declared.node.Change.TheVariants.{Piece}
use Rattle.book.specs.Records.{Store}
use Rattle.book.specs.Changing.{any_in, changed}
use Rattle.book.specs.Faults.{number}
use Rattle.book.specs.View.{view_of, Fits}

abbrev pub edit_of : call.Edit → Edit
edit_of (PutPiece place text from len) = put_piece place text from len
edit_of (PutVersion place v) = put_version place v
edit_of (Cut from len) = cut from len
edit_of (Crop from len) = crop from len

-- the open draft and the number of its bytes
pub record Begins (s : Store) (c : Contents) (r : Result (OpenDraft × ℕ) BookFault) : Type 0 where
  pub case : MatchResult r (λ p. (c.draft ≡ Some p.0) × (p.1 ≡ size_any (any_in s p.0.root)) × (p.1 ≤ limit)) (λ fault. (fault ≡ NoDraft) × (c.draft ≡ None))

-- a stretch of a string of `whole` bytes
abbrev pub Stretch : (whole from len : ℕ) → Result (ℕ × ℕ) BookFault → Type 0
Stretch whole from len r = MatchResult r (λ p. (p.0 ≡ from) × (p.1 ≡ len) × (from + len ≤ whole)) (λ fault. (fault ≡ PastEnd) × (whole < from + len))

-- the lengths of the texts and of the draft, which are all that the rows of a piece read
abbrev pub lengths_with : List ℕ → (draft : ℕ) → Lengths
lengths_with lens n = record { texts = lens; versions = []; draft = Some n }

-- a piece that no row of the lengths refuses
pub record PieceFits (lens : List ℕ) (n place text from len : ℕ) : Type 0 where
  pub inside : place ≤ n
  pub there : text < length lens
  pub whole : from + len ≤ slice_index lens text
  pub some : 0 < len
  pub short : n + len ≤ limit

pub record PieceJudged (lens : List ℕ) (n place text from len : ℕ) (r : Result Change BookFault) : Type 0 where
  pub case : MatchResult r (λ x. (x ≡ Piece place text from len) × PieceFits lens n place text from len)
      (λ fault. first_row (edit_rows (lengths_with lens n) (put_piece place text from len)) ≡ Some (number fault))

-- no row of the lengths refuses the edit, which is the change `x` of the tree of the draft
pub record Accepts (s : Store) (c : Contents) (e : Edit) (draft : OpenDraft) (x : Change) : Type 0 where
  pub begun : c.draft ≡ Some draft
  pub passes : first_row (edit_rows (lengths_of (view_of s c)) e) ≡ None
  pub fits : Fits s c draft.root x
  pub built : built (view_of s c) e ≡ changed s draft.root x

-- the change of an edit, or the first row of the lengths that refuses it
pub record Judges (s : Store) (c : Contents) (e : Edit) (r : Result (OpenDraft × Change) BookFault) : Type 0 where
  pub case : MatchResult r (λ p. Accepts s c e p.0 p.1) (λ fault. first_row (edit_rows (lengths_of (view_of s c)) e) ≡ Some (number fault))
