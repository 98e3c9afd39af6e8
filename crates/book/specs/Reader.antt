-- Records that are read with the texts of a shelf, and what a book gives to a reader.
use Rattle.std.specs.Prelude.{◌≡◌, ℕ, ◌<◌, ◌≤◌, true, false, Bool, ◌&&◌, List, map, length, Result, MatchResult}
use Rattle.std.specs.List.{AllByRecursion}
use Rattle.shelf.specs.Texts.{limit}
use Rattle.tree.specs.Edits.{size_any}
use Rattle.tree.specs.Tree.{Within, spell}
use Rattle.model.specs.Book as model
use Rattle.model.specs.Book.{same, version}
use Rattle.book.specs.declared.fault.BookFault.{BookFault}
use Rattle.book.specs.declared.fault.BookFault.TheVariants.{NotKept, OtherTexts}
use Rattle.book.specs.declared.node.Node.{Node}
use Rattle.book.specs.Records.{trees, tree_at, Sound}
use Rattle.book.specs.Tests.{all_stand, all_inside}
use Rattle.book.specs.Access.{Settled}

-- the records are sound, and their pieces lie inside the texts
pub record Readable (texts : List (List ℕ)) (xs : List Node) : Type 0 where
  pub sound : Sound xs
  pub within : AllByRecursion (Within texts) (trees xs)

-- the same as a test
unfoldable pub readable : List (List ℕ) → List Node → Bool
readable texts xs = all_stand xs (length xs) && all_inside (map length texts) (trees xs)

-- the bytes that the tree at a slot spells
abbrev pub bytes_at : (texts : List (List ℕ)) (xs : List Node) (slot : ℕ) → List ℕ
bytes_at texts xs slot = spell texts (tree_at xs slot)

-- the records of the slots that no draft made, where the texts have the noted lengths
pub record Read (b : model.Book) (texts : List (List ℕ)) (xs : List Node) : Type 0 where
  pub settled : Settled b xs
  pub noted : same (map length texts) b.lengths ≡ true

-- the texts have other lengths
pub record Unread (b : model.Book) (texts : List (List ℕ)) (fault : BookFault) : Type 0 where
  pub is : fault ≡ OtherTexts
  pub other : same (map length texts) b.lengths ≡ false

-- the number of bytes of a kept version
pub record Long (b : model.Book) (v n : ℕ) : Type 0 where
  pub kept : v < length b.kept
  pub is : n ≡ size_any (version b v)
  pub short : n ≤ limit

pub record LengthAnswer (b : model.Book) (v : ℕ) (r : Result ℕ BookFault) : Type 0 where
  pub case : MatchResult r (Long b v) (λ fault. (fault ≡ NotKept) × (length b.kept ≤ v))
