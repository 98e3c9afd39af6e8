-- What a book shows of its records and contents: the machine's book.
use Rattle.std.specs.Prelude.{◌≡◌, ℕ, ◌+◌, ◌<◌, ◌≤◌, true, List, ◌++◌, map, length, Some, None, Option, Result, MatchResult, slice_index}
use Rattle.tree.specs.Edits.{Made, size_any}
use Rattle.shelf.specs.Texts.{limit}
use Rattle.model.specs.Answers.{Answer, BookTold}
use Rattle.model.specs.Book as model
use Rattle.model.specs.Book.{book_step, with_draft}
use Rattle.model.specs.Calls.{BookCall}
use Rattle.book.specs.declared.contents.Contents.{Contents}
use Rattle.book.specs.declared.contents.OpenDraft.{OpenDraft}
use Rattle.book.specs.declared.fault.BookFault.{BookFault}
use Rattle.book.specs.declared.fault.BookFault.TheVariants.{NoRoom}
use Rattle.book.specs.declared.node.Change.{Change}
use Rattle.book.specs.declared.node.Change.TheVariants.{Piece, Tree, Cut, Crop}
use Rattle.book.specs.declared.node.Node.{Node}
use Rattle.book.specs.Records.{trees, Store, in_use, room}
use Rattle.book.specs.Changing.{Root, any_at, any_in}
use Rattle.book.specs.Contents.{noted, versions}
use Rattle.book.specs.Tests.{consistent}

abbrev pub draft_view : List Node → Option OpenDraft → Option model.Draft
draft_view xs None = None
draft_view xs (Some d) = Some (record { tree = any_at xs d.root; base = d.base })

-- `xs` are the records in use
abbrev pub shown : List Node → (room : ℕ) → Contents → model.Book
shown xs room c = record { slots = trees xs; kept = map (any_at xs) (versions c); draft = draft_view xs c.draft; lengths = noted c; room = room }

abbrev pub view_of : Store → Contents → model.Book
view_of s c = shown (in_use s) (room s.records) c

-- a call on records and contents: they stay consistent, and the machine answers and goes on alike, whatever the texts
pub record Steps (s : Store) (c : Contents) (s' : Store) (c' : Contents) (call : BookCall) (answer : Answer BookTold) : Type 0 where
  pub keeps : consistent s' c' ≡ true
  pub steps : (texts : List (List ℕ)) → book_step texts (view_of s c) call ≡ (answer, view_of s' c')

-- a change of the tree at `root` that no row but the last can refuse
abbrev pub Fits : Store → Contents → Option ℕ → Change → Type 0
Fits s c root (Piece place text start len) =
    (0 < len) × (text < length (noted c)) × (start + len ≤ slice_index (noted c) text) × (size_any (any_in s root) + len ≤ limit)
Fits s c root (Tree place other) = Root s.used other × (size_any (any_in s root) + size_any (any_in s other) ≤ limit)
Fits s c root (Cut from len) = Unit {0}
Fits s c root (Crop from len) = Unit {0}

-- the draft was changed by the rules, or there is no room for that and all is as it was
pub record Redrafts (s : Store) (c : Contents) (draft : OpenDraft) (s' : Store) (c' : Contents) (rule : Made) (r : Result ℕ BookFault) : Type 0 where
  pub keeps : consistent s' c' ≡ true
  pub case : MatchResult r
      (λ n. (n ≡ length rule.new)
      × (s.used + length rule.new ≤ room s.records)
      × (view_of s' c' ≡ with_draft (view_of s c) (trees (in_use s) ++ rule.new) (Some (record { tree = rule.tree; base = draft.base }))))
      (λ fault. (fault ≡ NoRoom) × (room s.records < s.used + length rule.new) × (view_of s' c' ≡ view_of s c))
