-- A node seen from either side.
use Rattle.std.proofs.Common.{◌≡◌, ℕ, ◌+◌, ◌≤◌, max, refl, arith}
use Rattle.tree.specs.Tree.{Tree, node, height, size, Balanced}
use Rattle.tree.specs.Side.{Side, left, right}
use Rattle.tree.specs.Relations.{on}

pub height_on : (side : Side) (s : ℕ) (a b : Tree) → height (on side s a b) ≡ max (height a) (height b) + 1
height_on left s a b = refl
height_on right s a b = omega arith

pub size_on : (side : Side) (s : ℕ) (a b : Tree) → size (on side s a b) ≡ size a + size b
size_on left s a b = refl
size_on right s a b = omega arith

-- a property that a node has if both of its sides have it, and only then
module _ (Q : Tree → Type 0) where
  pub up_on : ((s : ℕ) (l r : Tree) → Q l → Q r → Q (node s l r)) → (side : Side) (s : ℕ) (a b : Tree) → Q a → Q b → Q (on side s a b)
  up_on up left s a b qa qb = up s a b qa qb
  up_on up right s a b qa qb = up s b a qb qa

  pub down_on : ((s : ℕ) (l r : Tree) → Q (node s l r) → Q l × Q r) → (side : Side) (s : ℕ) (a b : Tree) → Q (on side s a b) → Q a × Q b
  down_on down left s a b q = down s a b q
  down_on down right s a b q = let z = down s b a q in (z.1, z.0)

pub balanced_on : (side : Side) (s : ℕ) (a b : Tree) → height a ≤ height b + 1 → height b ≤ height a + 1 → Balanced a → Balanced b → Balanced (on side s a b)
balanced_on left s a b h k ba bb = (h, k, ba, bb)
balanced_on right s a b h k ba bb = (k, h, bb, ba)

pub balanced_parts : (side : Side) (s : ℕ) (a b : Tree) → Balanced (on side s a b) → (height a ≤ height b + 1) × (height b ≤ height a + 1) × Balanced a × Balanced b
balanced_parts left s a b h = h
balanced_parts right s a b h = (h.1, h.0, h.3, h.2)
