-- The sides of a node: those of the code as those of the rules, and the slots that stand on them.
use Rattle.std.specs.Prelude.{ℕ}
use Rattle.tree.specs.Side as rules
use Rattle.tree.specs.Side.{left, right, pick}
use Rattle.book.specs.declared.node.Shape.{Shape}
use Rattle.book.specs.declared.node.Shape.TheVariants.{Piece, Fork}
use Rattle.book.specs.declared.node.Side.{Side}
use Rattle.book.specs.declared.node.Side.TheVariants.{Left, Right}

abbrev pub tree_side : Side → rules.Side
tree_side Left = left
tree_side Right = right

-- X, which stands on the side, and Y, in the order of left and right
abbrev pub ordered : rules.Side → ℕ → ℕ → ℕ × ℕ
ordered side x y = (pick side x y, pick side y x)

-- the slots of the sides of a record, first the one on the side; a piece, which has no sides, stands for both
abbrev pub sides_of : rules.Side → (own : ℕ) → Shape → ℕ × ℕ
sides_of side own (Piece k i) = (own, own)
sides_of side own (Fork l r) = ordered side l r
