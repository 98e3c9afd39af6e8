-- Trees in slots: `trees` lists the tree of each slot in use, in the order of the slots.
use Rattle.std.specs.Prelude.{◌≡◌, ◌<◌, List, [], ◌∷◌, ◌++◌, length, slice_index_or}
use Rattle.tree.specs.Tree.{Tree, piece, node, slot}

-- the tree stands at its slot
abbrev pub Held : List Tree → Tree → Type 0
Held trees t = (slot t < length trees) × ((d : Tree) → slice_index_or trees (slot t) d ≡ t)

-- and so does each tree inside it
abbrev pub Stored : List Tree → Tree → Type 0
Stored trees (piece s k i m) = Held trees (piece s k i m)
Stored trees (node s l r) = Held trees (node s l r) × Stored trees l × Stored trees r

-- the tree is for the next slot, and what is inside it is stored
abbrev pub Fresh : List Tree → Tree → Type 0
Fresh trees (piece s k i m) = s ≡ length trees
Fresh trees (node s l r) = (s ≡ length trees) × Stored trees l × Stored trees r

-- `new` is written behind `trees`, one tree after the other
abbrev pub Grows : List Tree → List Tree → Type 0
Grows trees [] = Unit {0}
Grows trees (t ∷ new) = Fresh trees t × Grows (trees ++ t ∷ []) new

-- `new` is written behind `trees`, and then `t` is stored
pub record Placed (trees new : List Tree) (t : Tree) : Type 0 where
  pub grows : Grows trees new
  pub stored : Stored (trees ++ new) t

-- the same for the two parts of a split
pub record PlacedBoth (trees new : List Tree) (l r : Tree) : Type 0 where
  pub grows : Grows trees new
  pub left : Stored (trees ++ new) l
  pub right : Stored (trees ++ new) r
