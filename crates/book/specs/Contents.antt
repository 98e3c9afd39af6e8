-- What a book holds beside its records, and when the two are consistent.
use Rattle.std.specs.Prelude.{◌≡◌, ℕ, ◌+◌, ◌<◌, ◌≤◌, List, length, Some, None, Option, Result, MatchResult, slice_get, slice_index}
use Rattle.std.specs.List.{AllByRecursion}
use Rattle.shelf.specs.Texts.{limit, most_texts}
use Rattle.tree.specs.Tree.{Tree, piece, node}
use Rattle.model.specs.Rows.{most_versions}
use Rattle.book.specs.declared.contents.Contents.{Contents}
use Rattle.book.specs.declared.contents.OpenDraft.{OpenDraft}
use Rattle.book.specs.declared.fault.BookFault.{BookFault}
use Rattle.book.specs.Records.{trees, Store, in_use, Ready}
use Rattle.book.specs.Changing.{Root}

-- the noted lengths of the texts
abbrev pub noted : Contents → List ℕ
noted c = c.lens.items

-- the roots of the kept versions
abbrev pub versions : Contents → List (Option ℕ)
versions c = c.roots.items

-- the item at a place of a list, or the fault where there is none
abbrev pub ItemOr : {A : Type 0} → List A → (k : ℕ) → (missing : BookFault) → Result A BookFault → Type 0
ItemOr xs k missing r = MatchResult r (λ x. slice_get xs k ≡ Some x) (λ fault. (fault ≡ missing) × (length xs ≤ k))

-- of `used` slots, those that no draft made
abbrev pub settled : (used : ℕ) → Option OpenDraft → ℕ
settled used None = used
settled used (Some d) = d.base

abbrev pub Drafted : (used : ℕ) → Option OpenDraft → Type 0
Drafted used None = Unit {0}
Drafted used (Some d) = Root used d.root × (d.base ≤ used)

pub record Orderly (used : ℕ) (c : Contents) : Type 0 where
  pub few : length (noted c) ≤ most_texts
  pub short : AllByRecursion (λ n. n ≤ limit) (noted c)
  pub most_kept : length (versions c) ≤ most_versions
  pub drafted : Drafted used c.draft
  pub rooted : AllByRecursion (Root (settled used c.draft)) (versions c)

-- every piece has a byte at least and lies inside its text, by the lengths of the texts
abbrev pub Inside : List ℕ → Tree → Type 0
Inside lens (piece s k i m) = (0 < m) × (k < length lens) × (i + m ≤ slice_index lens k)
Inside lens (node s l r) = Inside lens l × Inside lens r

pub record Consistent (s : Store) (c : Contents) : Type 0 where
  pub ready : Ready s
  pub orderly : Orderly s.used c
  pub inside : AllByRecursion (Inside (noted c)) (trees (in_use s))
