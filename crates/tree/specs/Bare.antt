-- Bare trees, which have no slots, and the rules of joining, splitting and editing them, as relations.
use Rattle.std.specs.Prelude.{◌≡◌, ℕ, ◌+◌, ◌-◌, ◌<◌, ◌≤◌, max, Some, None, Option}
use Rattle.tree.specs.Tree.{Tree, piece, node}
use Rattle.tree.specs.Side.{Side, left, right, other}

-- a leaf is a piece, a fork is a node
pub data Bare : Type 0 where
  leaf : (text start len : ℕ) → Bare
  fork : (left right : Bare) → Bare

-- a tree without its slots
abbrev pub forget : Tree → Bare
forget (piece s k i m) = leaf k i m
forget (node s l r) = fork (forget l) (forget r)

abbrev pub forget_any : Option Tree → Option Bare
forget_any None = None
forget_any (Some t) = Some (forget t)

abbrev pub height : Bare → ℕ
height (leaf k i m) = 0
height (fork l r) = max (height l) (height r) + 1

abbrev pub size : Bare → ℕ
size (leaf k i m) = m
size (fork l r) = size l + size r

-- (A B) with A on the side; on the right it is (B A)
abbrev pub on : Side → Bare → Bare → Bare
on left a b = fork a b
on right a b = fork b a

-- A stays on the side, and T takes the other: (A T) where T is at most one higher than A;
-- else ((A C) D) where T is (C D) and C is no higher than D; else ((A E)(F D)) where C is (E F).
pub data Leans : Side → Bare → Bare → Bare → Type 0 where
  plain : {side : Side} {a t : Bare} → height t ≤ height a + 1 → Leans side a t (on side a t)
  once : {side : Side} {a t : Bare} (c d : Bare) → height a + 1 < height t → t ≡ on side c d → height c ≤ height d → Leans side a t (on side (on side a c) d)
  twice : {side : Side} {a t : Bare} (c d e f : Bare) → height a + 1 < height t → t ≡ on side c d → height d < height c → c ≡ on side e f →
      Leans side a t (on side (on side a e) (on side f d))

-- The join of X, which stands on the side, with Y: (X Y) where the heights are at most 1 apart;
-- where X is higher, it is (A B), and T, the join of B and Y, comes beside A; where Y is higher, the same with left and right exchanged.
pub data Joins : Side → Bare → Bare → Bare → Type 0 where
  level : {side : Side} {x y : Bare} → height x ≤ height y + 1 → height y ≤ height x + 1 → Joins side x y (on side x y)
  lower : {side : Side} {x y t u : Bare} (a b : Bare) → height y + 1 < height x → x ≡ on side a b → Joins side b y t → Leans side a t u → Joins side x y u
  exchange : {side : Side} {x y t : Bare} → height x + 1 < height y → Joins (other side) y x t → Joins side x y t

-- T is the join of L and R
abbrev pub Join : Bare → Bare → Bare → Type 0
Join l r t = Joins left l r t

-- a split at a place strictly inside, into a left and a right part
pub data Splits : Bare → ℕ → Bare → Bare → Type 0 where
  halve : {k i m p : ℕ} → 0 < p → p < m → Splits (leaf k i m) p (leaf k i p) (leaf k (i + p) (m - p))
  smaller : {l r x y t : Bare} {p : ℕ} → p < size l → Splits l p x y → Join y r t → Splits (fork l r) p x t
  between : {l r : Bare} {p : ℕ} → p ≡ size l → Splits (fork l r) p l r
  larger : {l r x y t : Bare} {p rest : ℕ} → p ≡ size l + rest → 0 < rest → Splits r rest x y → Join l x t → Splits (fork l r) p t y

-- where a tree may be missing
pub data JoinAny : Option Bare → Option Bare → Option Bare → Type 0 where
  no_left : {r : Option Bare} → JoinAny None r r
  no_right : {l : Bare} → JoinAny (Some l) None (Some l)
  both : {l r t : Bare} → Join l r t → JoinAny (Some l) (Some r) (Some t)

-- at 0 or at the full length one part is missing, and the other is the tree
pub data SplitAny : Option Bare → ℕ → Option Bare → Option Bare → Type 0 where
  nothing : {p : ℕ} → SplitAny None p None None
  start : {t : Bare} {p : ℕ} → p ≡ 0 → SplitAny (Some t) p None (Some t)
  end : {t : Bare} {p : ℕ} → 0 < p → p ≡ size t → SplitAny (Some t) p (Some t) None
  inside : {t x y : Bare} {p : ℕ} → 0 < p → p < size t → Splits t p x y → SplitAny (Some t) p (Some x) (Some y)

-- a tree put in at a place: split there, join the left part with it, then with the right part
pub data Put : Option Bare → ℕ → Bare → Option Bare → Type 0 where
  puts : {t l r u v : Option Bare} {p : ℕ} {x : Bare} → SplitAny t p l r → JoinAny l (Some x) u → JoinAny u r v → Put t p x v

-- a piece, of text k from i on, m bytes
abbrev pub PutPiece : Option Bare → ℕ → ℕ → ℕ → ℕ → Option Bare → Type 0
PutPiece t p k i m u = Put t p (leaf k i m) u

-- a tree that may be missing; then all stays as it is
pub data PutAny : Option Bare → ℕ → Option Bare → Option Bare → Type 0 where
  nothing : {t : Option Bare} {p : ℕ} → PutAny t p None t
  some : {t u : Option Bare} {p : ℕ} {x : Bare} → Put t p x u → PutAny t p (Some x) u

-- without m bytes from p on: split at p, split the right part at m, join the outer parts; with no bytes to cut, all stays as it is
pub data Cut : Option Bare → ℕ → ℕ → Option Bare → Type 0 where
  nothing : {t : Option Bare} {p m : ℕ} → m ≡ 0 → Cut t p m t
  some : {t l r x y u : Option Bare} {p m : ℕ} → 0 < m → SplitAny t p l r → SplitAny r m x y → JoinAny l y u → Cut t p m u

-- the m bytes from p on: the same two splits, and the middle part
pub data Crop : Option Bare → ℕ → ℕ → Option Bare → Type 0 where
  crops : {t l r x y : Option Bare} {p m : ℕ} → SplitAny t p l r → SplitAny r m x y → Crop t p m x
