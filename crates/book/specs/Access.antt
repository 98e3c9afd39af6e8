-- What a book gives to those who read it: the records that no draft made, and the roots of the kept versions.
use Rattle.std.specs.Prelude.{◌≡◌, ℕ, ◌<◌, ◌≤◌, List, length, take, Option, Result, MatchResult}
use Rattle.std.specs.List.{AllByRecursion}
use Rattle.model.specs.Book as model
use Rattle.model.specs.Book.{settled, version}
use Rattle.book.specs.declared.fault.BookFault.{BookFault}
use Rattle.book.specs.declared.fault.BookFault.TheVariants.{NotKept}
use Rattle.book.specs.declared.node.Node.{Node}
use Rattle.book.specs.Records.{trees, Sound}
use Rattle.book.specs.Changing.{Root, any_at}
use Rattle.book.specs.Contents.{Inside}

-- the records of the slots that no draft made, and the trees that they stand for
pub record Settled (b : model.Book) (xs : List Node) : Type 0 where
  pub sound : Sound xs
  pub long : length xs ≡ settled b
  pub trees_are : trees xs ≡ take (settled b) b.slots
  pub inside : AllByRecursion (Inside b.lengths) (trees xs)

-- the root of a version, which is among those records: `xs` are the records that no draft made
pub record Rooted (b : model.Book) (v : ℕ) (root : Option ℕ) : Type 0 where
  pub kept : v < length b.kept
  pub held : Root (settled b) root
  pub tree : (xs : List Node) → Settled b xs → version b v ≡ any_at xs root

pub record RootAnswer (b : model.Book) (v : ℕ) (r : Result (Option ℕ) BookFault) : Type 0 where
  pub case : MatchResult r (λ root. Rooted b v root) (λ fault. (fault ≡ NotKept) × (length b.kept ≤ v))
