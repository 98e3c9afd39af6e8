-- The rules of joining and splitting trees with slots, as relations: which case applies when, and what it writes.
-- `n` is the next free slot.
use Rattle.std.specs.Prelude.{◌≡◌, ℕ, ◌+◌, ◌<◌, ◌≤◌, [], length}
use Rattle.tree.specs.Tree.{Tree, piece, node, height, size}
use Rattle.tree.specs.Side.{Side, left, right, other}
use Rattle.tree.specs.Rules.{Built, then, Brackets, write, plain, turn_once, turn_twice, Parts, halved, with_right, with_left}

-- (A B) with A on the side: on the right it is (B A)
abbrev pub on : Side → ℕ → Tree → Tree → Tree
on left s a b = node s a b
on right s a b = node s b a

-- A stays on the side, and T takes the other
pub data Leaned : Side → Tree → Tree → Brackets → Type 0 where
  flat : {side : Side} {a t : Tree} → height t ≤ height a + 1 → Leaned side a t (plain side a t)
  once : {side : Side} {a : Tree} (s : ℕ) (c d : Tree) → height a + 1 < height (on side s c d) → height c ≤ height d →
      Leaned side a (on side s c d) (turn_once side a c d)
  twice : {side : Side} {a : Tree} (s u : ℕ) (e f d : Tree) → height a + 1 < height (on side s (on side u e f) d) → height d < height (on side u e f) →
      Leaned side a (on side s (on side u e f) d) (turn_twice side a e f d)

-- the join of X, which stands on the side, with Y
pub data Joined : Side → ℕ → Tree → Tree → Built → Type 0 where
  level : {side : Side} {n : ℕ} {x y : Tree} → height x ≤ height y + 1 → height y ≤ height x + 1 → Joined side n x y (write n (plain side x y))
  lower : {side : Side} {n : ℕ} {y : Tree} {t : Built} {u : Brackets} (s : ℕ) (a b : Tree) → height y + 1 < height (on side s a b) → Joined side n b y t →
      Leaned side a t.tree u → Joined side n (on side s a b) y (then t (write (n + length t.new) u))
  exchange : {side : Side} {n : ℕ} {x y : Tree} {b : Built} → height x + 1 < height y → Joined (other side) n y x b → Joined side n x y b

-- a split strictly inside
pub data Split : ℕ → Tree → ℕ → Parts → Type 0 where
  halve : {n s k i m p : ℕ} → 0 < p → p < m → Split n (piece s k i m) p (halved n k i m p)
  smaller : {n s p : ℕ} {l r : Tree} {q : Parts} {b : Built} → p < size l → Split n l p q → Joined left (n + length q.new) q.right r b →
      Split n (node s l r) p (with_right q b)
  between : {n s p : ℕ} {l r : Tree} → p ≡ size l → Split n (node s l r) p (record { new = []; left = l; right = r })
  larger : {n s p rest : ℕ} {l r : Tree} {q : Parts} {b : Built} → p ≡ size l + rest → 0 < rest → Split n r rest q →
      Joined left (n + length q.new) l q.left b → Split n (node s l r) p (with_left q b)
