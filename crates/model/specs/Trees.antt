-- The book of trees: bare trees, which have no slots, and what the rules of trees allow for each call.
use Rattle.std.specs.Prelude.{◌≡◌, ℕ, ◌+◌, ◌-◌, List, [], ◌∷◌, ◌++◌, map, length, Some, None, Option, slice_index_or}
use Rattle.std.specs.Option.{option_map, unwrap_or}
use Rattle.tree.specs.Bare.{Bare, leaf, fork, size, height, forget_any, PutPiece, PutAny, Cut, Crop}
use Rattle.model.specs.Calls.{Edit, put_piece, put_version, cut, crop, BookCall, open_version, edit, keep, toss, read, find, shape, Call, on_book, on_sheet, elsewhere}
use Rattle.model.specs.Answers.{Answer, refused, accepted, BookTold, opened, edited, tossed, shaped, Told, by_book}
use Rattle.tree.specs.Made.{put_made, put_any_made, cut_made, crop_made}
use Rattle.model.specs.Book.{Book}

-- The tree of a draft, and the slots that were made for it since it was opened.
pub record TreeDraft : Type 0 where
  pub tree : Option Bare
  pub made : ℕ

-- The tree of each kept version, and the draft if one is open. An empty string has no tree.
pub record TreeBook : Type 0 where
  pub kept : List (Option Bare)
  pub draft : Option TreeDraft

abbrev pub new_trees : TreeBook
new_trees = record { kept = None ∷ []; draft = None }

-- a book without its slots
abbrev pub forgotten : Book → TreeBook
forgotten b = record {
  kept = map forget_any b.kept;
  draft = option_map (λ d. record { tree = forget_any d.tree; made = length b.slots - d.base }) b.draft;
}

abbrev pub tree : TreeBook → ℕ → Option Bare
tree b v = slice_index_or b.kept v None

-- the draft; where none is open, an empty one
abbrev pub open_draft : TreeBook → TreeDraft
open_draft b = unwrap_or b.draft (record { tree = None; made = 0 })

abbrev pub with_draft : TreeBook → Option TreeDraft → TreeBook
with_draft b draft = record { kept = b.kept; draft = draft }

abbrev pub pieces : Bare → ℕ
pieces (leaf k i m) = 1
pieces (fork l r) = pieces l + pieces r

abbrev pub shape_of : Option Bare → BookTold
shape_of None = shaped 0 0 0
shape_of (Some t) = shaped (size t) (height t) (pieces t)

-- the rules allow the edit to make t of the draft
abbrev pub EditsTo : TreeBook → Edit → (t : Option Bare) → Type 0
EditsTo b (put_piece place text from len) t = PutPiece (open_draft b).tree place text from len t
EditsTo b (put_version place v) t = PutAny (open_draft b).tree place (tree b v) t
EditsTo b (cut from len) t = Cut (open_draft b).tree from len t
EditsTo b (crop from len) t = Crop (open_draft b).tree from len t

-- the slots that an edit takes by these rules; the piece that is put takes one too
abbrev pub edit_made : (b : TreeBook) (e : Edit) (t : Option Bare) → EditsTo b e t → ℕ
edit_made b (put_piece place text from len) t rules = put_made rules + 1
edit_made b (put_version place v) t rules = put_any_made rules
edit_made b (cut from len) t rules = cut_made rules
edit_made b (crop from len) t rules = crop_made rules

-- the rules allow an accepted call to tell `told` and to leave `after`; what read and find tell is for strings to say
abbrev pub AllowsBook : {V : Type 0} → TreeBook → BookCall → (told : Told V) (after : TreeBook) → Type 0
AllowsBook b (open_version v) told after =
    (told ≡ by_book opened) × (after ≡ with_draft b (Some (record { tree = tree b v; made = 0 })))
AllowsBook b (edit e) told after =
    (t : Option Bare) × (rules : EditsTo b e t) × (told ≡ by_book (edited (edit_made b e t rules)))
    × (after ≡ with_draft b (Some (record { tree = t; made = (open_draft b).made + edit_made b e t rules })))
AllowsBook b keep told after =
    (told ≡ by_book (BookTold.kept (length b.kept) (open_draft b).made))
    × (after ≡ record { kept = b.kept ++ (open_draft b).tree ∷ []; draft = None })
AllowsBook b toss told after = (told ≡ by_book tossed) × (after ≡ with_draft b None)
AllowsBook b (read v from len shown) told after = after ≡ b
AllowsBook b (find v from pattern shown) told after = after ≡ b
AllowsBook b (shape v) told after = (told ≡ by_book (shape_of (tree b v))) × (after ≡ b)

-- a call that the real book refused changes nothing, and calls on sheets change nothing here
abbrev pub Allows : {V : Type 0} → TreeBook → Call → (answer : Answer (Told V)) (after : TreeBook) → Type 0
Allows b c (refused row) after = after ≡ b
Allows b (on_book c) (accepted told) after = AllowsBook b c told after
Allows b (on_sheet sheet c) (accepted told) after = after ≡ b
Allows b elsewhere (accepted told) after = after ≡ b

-- the calls of a run, with the real book's answers
abbrev pub AllowsRun : {V : Type 0} → TreeBook → List Call → (answers : List (Answer (Told V))) (after : TreeBook) → Type 0
AllowsRun b [] answers after = after ≡ b
AllowsRun b (c ∷ calls) [] after = ⊥
AllowsRun b (c ∷ calls) (answer ∷ answers) after = (next : TreeBook) × Allows b c answer next × AllowsRun next calls answers after
