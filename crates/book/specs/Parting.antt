-- What a split of a tree in a slot asks and answers.
use Rattle.std.specs.Prelude.{◌≡◌, ℕ, ◌<◌, length, Result, MatchResult}
use Rattle.tree.specs.Tree.{size}
use Rattle.tree.specs.Rules as rules
use Rattle.book.specs.declared.node.Built.{Built}
use Rattle.book.specs.declared.node.NoRoom.{NoRoom}
use Rattle.book.specs.Records.{Store, Ready, tree_in}
use Rattle.book.specs.Building.{Wrote, Lacks}

-- a place strictly inside the tree at a slot in use
pub record Inside (s : Store) (t place : ℕ) : Type 0 where
  pub ready : Ready s
  pub slot : t < s.used
  pub above : 0 < place
  pub below : place < size (tree_in s t)

-- the parts that the rules make were made
pub record Parted (s s' : Store) (rule : rules.Parts) (q : Built (ℕ × ℕ)) : Type 0 where
  pub wrote : Wrote s s' rule.new
  pub left_slot : q.value.0 < s'.used
  pub right_slot : q.value.1 < s'.used
  pub left : tree_in s' q.value.0 ≡ rule.left
  pub right : tree_in s' q.value.1 ≡ rule.right
  pub made : q.made ≡ length rule.new

-- the parts that the rules make, or no room for them
pub record Splits (s s' : Store) (rule : rules.Parts) (r : Result (Built (ℕ × ℕ)) NoRoom) : Type 0 where
  pub case : MatchResult r (λ q. Parted s s' rule q) (λ _. Lacks s s' (length rule.new))
