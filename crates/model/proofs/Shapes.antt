-- A tree and the same without its slots have the same shape.
use Rattle.std.proofs.Common.{◌≡◌, Some, None, Option, refl}
use Rattle.tree.specs.Tree
use Rattle.tree.specs.Tree.{Tree, piece, node}
use Rattle.tree.specs.Bare.{forget, forget_any}
use Rattle.tree.proofs.Bare.{size_forget, height_forget}
use Rattle.model.specs.Book
use Rattle.model.specs.Trees.{pieces, shape_of}

pieces_forget : (t : Tree) → pieces (forget t) ≡ Tree.pieces t
pieces_forget (piece s k i m) = refl
pieces_forget (node s l r) = rw (pieces_forget l, pieces_forget r)

pub shape_forget : (o : Option Tree) → Book.shape_of o ≡ shape_of (forget_any o)
shape_forget None = refl
shape_forget (Some t) = rw (size_forget t, height_forget t, pieces_forget t)
