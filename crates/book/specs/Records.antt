-- Node records in slots, and the trees that they stand for.
use Rattle.std.specs.Prelude.{◌≡◌, ℕ, ◌+◌, ◌<◌, ◌≤◌, min, List, [], ◌∷◌, ◌++◌, length, take, slice_index_or}
use Rattle.shelf.specs.Texts.{limit}
use Rattle.tree.specs.Tree.{Tree, piece, node, height, size, pieces, Balanced}
use Rattle.model.specs.Rows.{most_slots}
use Rattle.book.specs.declared.node.Node.{Node}
use Rattle.book.specs.declared.node.Places.{Places}
use Rattle.book.specs.declared.node.Shape.{Shape}
use Rattle.book.specs.declared.node.Shape.TheVariants.{Piece, Fork}

-- what a list gives past its end
abbrev pub no_tree : Tree
no_tree = piece 0 0 0 0

abbrev pub no_node : Node
no_node = record { len = 0; height = 0; pieces = 0; shape = Piece 0 0 }

-- the tree of a record at the next slot, whose sides are among the trees before it
unfoldable pub shaped : List Tree → (len : ℕ) → Shape → Tree
shaped ts m (Piece k i) = piece (length ts) k i m
shaped ts m (Fork l r) = node (length ts) (slice_index_or ts l no_tree) (slice_index_or ts r no_tree)

-- the trees `ts`, and those of further records
unfoldable pub grown : List Tree → List Node → List Tree
grown ts [] = ts
grown ts (x ∷ xs) = grown (ts ++ shaped ts x.len x.shape ∷ []) xs

-- the tree at each slot
unfoldable pub trees : List Node → List Tree
trees xs = grown [] xs

unfoldable pub tree_at : List Node → ℕ → Tree
tree_at xs i = slice_index_or (trees xs) i no_tree

-- every piece has a byte at least, and ends within the longest text
abbrev pub Filled : Tree → Type 0
Filled (piece s k i m) = (0 < m) × (i + m ≤ limit)
Filled (node s l r) = Filled l × Filled r

-- the sides are at slots before `i`
abbrev pub Below : ℕ → Shape → Type 0
Below i (Piece k s) = Unit {0}
Below i (Fork l r) = (l < i) × (r < i)

-- the record `x` at slot `i` stands for the tree `t`
pub record Stands (i : ℕ) (x : Node) (t : Tree) : Type 0 where
  pub below : Below i x.shape
  pub len : x.len ≡ size t
  pub height : x.height ≡ height t
  pub pieces : x.pieces ≡ pieces t
  pub balanced : Balanced t
  pub filled : Filled t
  pub short : size t ≤ limit

unfoldable pub Sound : List Node → Type 0
Sound xs = (i : ℕ) → i < length xs → Stands i (slice_index_or xs i no_node) (tree_at xs i)

-- a list of records, of which the first `used` are in use
pub record Store : Type 0 where
  pub records : List Node
  pub used : ℕ

abbrev pub store : List Node → Places → Store
store xs places = record { records = xs; used = places.used }

abbrev pub in_use : Store → List Node
in_use s = take s.used s.records

-- the number of slots that there are
abbrev pub room : List Node → ℕ
room xs = min (length xs) most_slots

pub record Ready (s : Store) : Type 0 where
  pub within : s.used ≤ length s.records
  pub few : s.used ≤ most_slots
  pub sound : Sound (in_use s)

-- the tree at a slot in use
abbrev pub tree_in : Store → ℕ → Tree
tree_in s i = tree_at (in_use s) i
