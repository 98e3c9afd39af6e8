-- The sides of a tree in use.
use Rattle.std.proofs.Common.{◌≡◌, ℕ, ◌+◌, ◌<◌, max, get_or, ap, subst, arith}
use Rattle.tree.specs.Tree.{node, height, size, Balanced}
use Rattle.tree.specs.Side.{Side, left, right}
use Rattle.tree.specs.Relations.{on}
use Rattle.book.specs.declared.node.Shape.{Shape}
use Rattle.book.specs.declared.node.Shape.TheVariants.{Piece, Fork}
use Rattle.book.specs.Sides.{sides_of}
use Rattle.book.specs.Records.{no_node, Below, Store, in_use, Ready, tree_in}
use Rattle.book.specs.Building.{Near}
use Rattle.book.proofs.Grown.{Reads}
use Rattle.book.proofs.Stores.{stands_at, reads_at}

-- the tree at slot `t` is (A B), with A on the side
pub record Forks (s : Store) (side : Side) (t a b : ℕ) : Type 0 where
  pub first : a < t
  pub second : b < t
  pub tree : tree_in s t ≡ on side t (tree_in s a) (tree_in s b)
  pub height : height (tree_in s t) ≡ max (height (tree_in s a)) (height (tree_in s b)) + 1
  pub size : size (tree_in s t) ≡ size (tree_in s a) + size (tree_in s b)
  pub near : Near (tree_in s a) (tree_in s b)

exchange : {s : Store} {t a b : ℕ} → Forks s left t a b → Forks s right t b a
exchange f =
    let h = f.height in
    let z = f.size in
    record { first = f.second; second = f.first; tree = f.tree; height = omega arith; size = omega arith; near = (f.near.1, f.near.0) }

forks_left : {s : Store} (t m l r : ℕ) → Below t (Fork l r) → Reads (in_use s) t m (Fork l r) → Balanced (tree_in s t) → Forks s left t l r
forks_left {s} t m l r below reads balanced =
    let b : Balanced (node t (tree_in s l) (tree_in s r)) = subst Balanced reads balanced in
    record { first = below.0; second = below.1; tree = reads; height = ap height reads; size = ap size reads; near = (b.0, b.1) }

forks_of : (side : Side) {s : Store} (t m : ℕ) (x : Shape) → Below t x → Reads (in_use s) t m x → Balanced (tree_in s t) → 0 < height (tree_in s t) →
    Forks s side t (sides_of side t x).0 (sides_of side t x).1
forks_of side t m (Piece k i) below reads balanced h = absurd (omega (arith, ap height reads))
forks_of left t m (Fork l r) below reads balanced h = forks_left t m l r below reads balanced
forks_of right t m (Fork l r) below reads balanced h = exchange (forks_left t m l r below reads balanced)

-- a tree of some height has sides
pub forked : (side : Side) {s : Store} (t : ℕ) (o : ℕ × ℕ) → Ready s → t < s.used → 0 < (get_or s.records t no_node).height →
    o ≡ sides_of side t (get_or s.records t no_node).shape → Forks s side t o.0 o.1
forked side {s} t o d h p e =
    let k = stands_at d t h in
    rw e (forks_of side t (get_or s.records t no_node).len (get_or s.records t no_node).shape k.below (reads_at d t h) k.balanced (omega arith))

held_of : (side : Side) (t u : ℕ) (x : Shape) → t < u → Below t x → ((sides_of side t x).0 < u) × ((sides_of side t x).1 < u)
held_of side t u (Piece k i) h b = (h, h)
held_of left t u (Fork l r) h b = (omega arith, omega arith)
held_of right t u (Fork l r) h b = (omega arith, omega arith)

-- the slots that stand for the sides of any tree in use are in use
pub sides_held : (side : Side) {s : Store} (t : ℕ) (o : ℕ × ℕ) → Ready s → t < s.used → o ≡ sides_of side t (get_or s.records t no_node).shape →
    (o.0 < s.used) × (o.1 < s.used)
sides_held side {s} t o d h e = rw e (held_of side t s.used (get_or s.records t no_node).shape h (stands_at d t h).below)

-- what a record with sides says
pub forks_at : {s : Store} (t l r : ℕ) → Ready s → t < s.used → (get_or s.records t no_node).shape ≡ Fork l r → Forks s left t l r
forks_at {s} t l r d h e =
    let k = stands_at d t h in
    forks_left t (get_or s.records t no_node).len l r (subst (λ x. Below t x) e k.below)
    (subst (λ x. Reads (in_use s) t (get_or s.records t no_node).len x) e (reads_at d t h)) k.balanced
