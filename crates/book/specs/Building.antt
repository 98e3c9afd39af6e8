-- What the functions that build trees in slots ask and answer.
use Rattle.std.specs.Prelude.{◌≡◌, ℕ, ◌+◌, ◌<◌, ◌≤◌, max, List, [], ◌∷◌, ◌++◌, length, take, Some, None, Option, Result, MatchResult, slice_set}
use Rattle.shelf.specs.Texts.{limit}
use Rattle.tree.specs.Tree.{Tree, height, size}
use Rattle.tree.specs.Side.{pick}
use Rattle.tree.specs.Rules as rules
use Rattle.tree.specs.Rules.{old, pair}
use Rattle.book.specs.declared.node.Built.{Built}
use Rattle.book.specs.declared.node.Node.{Node}
use Rattle.book.specs.declared.node.NoRoom.{NoRoom}
use Rattle.book.specs.declared.node.Side.{Side}
use Rattle.book.specs.Sides.{tree_side}
use Rattle.book.specs.Records.{Store, in_use, trees, room, Ready, tree_in}

-- one tree written
abbrev pub one : Tree → rules.Built
one t = record { new = t ∷ []; tree = t }

-- the heights differ by at most 1
abbrev pub Near : Tree → Tree → Type 0
Near l r = (height l ≤ height r + 1) × (height r ≤ height l + 1)

-- two slots in use, whose trees are together not too long
pub record Pair (s : Store) (l r : ℕ) : Type 0 where
  pub ready : Ready s
  pub left : l < s.used
  pub right : r < s.used
  pub short : size (tree_in s l) + size (tree_in s r) ≤ limit

-- and whose heights let them be the sides of a node
pub record Level (s : Store) (l r : ℕ) : Type 0 where
  pub pair : Pair s l r
  pub near : Near (tree_in s l) (tree_in s r)

-- `t` is as high as a tree that was near to `a`, or one higher
pub record Leaning (s : Store) (a t : ℕ) : Type 0 where
  pub pair : Pair s a t
  pub low : height (tree_in s a) ≤ height (tree_in s t) + 1
  pub high : height (tree_in s t) ≤ height (tree_in s a) + 2

-- four slots in use whose trees can become ((W X)(Y Z))
pub record Four (s : Store) (w x y z : ℕ) : Type 0 where
  pub first : Level s w x
  pub second : Level s y z
  pub near : (max (height (tree_in s w)) (height (tree_in s x)) ≤ max (height (tree_in s y)) (height (tree_in s z)) + 1)
      × (max (height (tree_in s y)) (height (tree_in s z)) ≤ max (height (tree_in s w)) (height (tree_in s x)) + 1)
  pub short : size (tree_in s w) + size (tree_in s x) + (size (tree_in s y) + size (tree_in s z)) ≤ limit

abbrev pub four : Store → ℕ → ℕ → ℕ → ℕ → rules.Brackets
four s w x y z = pair (pair (old (tree_in s w)) (old (tree_in s x))) (pair (old (tree_in s y)) (old (tree_in s z)))

-- which of two heights is greater by two or more, if one is
abbrev pub Higher : (l r : ℕ) → Option Side → Type 0
Higher l r None = (l ≤ r + 1) × (r ≤ l + 1)
Higher l r (Some side) = pick (tree_side side) r l + 1 < pick (tree_side side) l r

-- the record was written at the next slot
pub record Added (s s' : Store) (x : Node) (b : Built ℕ) : Type 0 where
  pub slot : b.value ≡ s.used
  pub made : b.made ≡ 1
  pub used : s'.used ≡ s.used + 1
  pub records : s'.records ≡ slice_set s.records s.used x
  pub free : s.used < room s.records

-- the trees of `new` were written behind those in use, which are as they were
pub record Wrote (s s' : Store) (new : List Tree) : Type 0 where
  pub len : length s'.records ≡ length s.records
  pub used : s'.used ≡ s.used + length new
  pub ready : Ready s'
  pub kept : take s.used s'.records ≡ in_use s
  pub trees : trees (in_use s') ≡ trees (in_use s) ++ new

-- what the rules build was built
pub record Made (s s' : Store) (rule : rules.Built) (b : Built ℕ) : Type 0 where
  pub wrote : Wrote s s' rule.new
  pub slot : b.value < s'.used
  pub tree : tree_in s' b.value ≡ rule.tree
  pub made : b.made ≡ length rule.new

-- the rules take `made` slots, and fewer are free; the records in use are as they were
pub record Lacks (s s' : Store) (made : ℕ) : Type 0 where
  pub len : length s'.records ≡ length s.records
  pub kept : take s.used s'.records ≡ in_use s
  pub full : room s.records < s.used + made

-- what the rules build, or no room for it
pub record Builds (s s' : Store) (rule : rules.Built) (r : Result (Built ℕ) NoRoom) : Type 0 where
  pub case : MatchResult r (λ b. Made s s' rule b) (λ _. Lacks s s' (length rule.new))
