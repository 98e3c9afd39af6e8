-- The functions do what the relations say.
use Rattle.std.proofs.Common.{ℕ, ◌+◌, ◌<◌, ◌≤◌, cond, leb, length, ⊎_elim, arith}
use Rattle.std.proofs.lemmas.Bool.{cases_lt, cond_both, leb-true, leb-false}
use Rattle.tree.specs.Tree.{Tree, piece, node, height, Balanced}
use Rattle.tree.specs.Side.{Side, left, right, other}
use Rattle.tree.specs.Rules.{Built, then, Brackets, write, plain, turn_once, turn_twice, turn, lean, level_or_lean, descend, join}
use Rattle.tree.specs.Relations.{on, Leaned, Joined}
use Rattle.tree.proofs.Sides.{height_on, balanced_parts}
use Rattle.tree.proofs.Steps.{descend_level}

turning : (side : Side) (s u : ℕ) (a e f d : Tree) → height a + 1 < height (on side s (on side u e f) d) →
    Leaned side a (on side s (on side u e f) d) (cond (leb (height (on side u e f)) (height d)) (turn_once side a (on side u e f) d) (turn_twice side a e f d))
turning side s u a e f d h = cond_both (leb (height (on side u e f)) (height d)) _ _ (Leaned side a (on side s (on side u e f) d))
    (λ q. Leaned.once s (on side u e f) d h (leb-true _ _ q)) (λ q. Leaned.twice s u e f d h (leb-false _ _ q))

turns : (side : Side) (s : ℕ) (a c d : Tree) → height a + 1 < height (on side s c d) → Leaned side a (on side s c d) (turn side a c d)
turns side s a (piece u k i m) d h = Leaned.once s (piece u k i m) d h (omega arith)
turns left s a (node u e f) d h = turning left s u a e f d h
turns right s a (node u f e) d h = turning right s u a e f d h

leaning : (side : Side) (s : ℕ) (a c d : Tree) →
    Leaned side a (on side s c d) (cond (leb (height (on side s c d)) (height a + 1)) (plain side a (on side s c d)) (turn side a c d))
leaning side s a c d = cond_both (leb (height (on side s c d)) (height a + 1)) _ _ (Leaned side a (on side s c d))
    (λ q. Leaned.flat (leb-true _ _ q)) (λ q. turns side s a c d (leb-false _ _ q))

pub leans : (side : Side) (a t : Tree) → Leaned side a t (lean side a t)
leans side a (piece s k i m) = Leaned.flat (omega arith)
leans left a (node s c d) = leaning left s a c d
leans right a (node s d c) = leaning right s a c d

level_or_leans : (side : Side) (n s : ℕ) (a b y : Tree) (t : Built) → height y ≤ height (on side s a b) + 1 → Balanced (on side s a b) →
    (height y ≤ height b + 1 → Joined side n b y t) → Joined side n (on side s a b) y (level_or_lean side n (on side s a b) y a t)
level_or_leans side n s a b y t h bx below = cond_both (leb (height (on side s a b)) (height y + 1)) _ _ (Joined side n (on side s a b) y)
    (λ q. Joined.level (leb-true _ _ q) h)
    (λ q. let far = leb-false (height (on side s a b)) (height y + 1) q in
    Joined.lower s a b far (below (omega (arith, height_on side s a b, (balanced_parts side s a b bx).0))) (leans side a _))

pub descends : (side : Side) (n : ℕ) (x y : Tree) → Balanced x → height y ≤ height x + 1 → Joined side n x y (descend side n x y)
descends side n (piece s k i m) y bx h = Joined.level (omega arith) h
descends left n (node s a b) y bx h = level_or_leans left n s a b y _ h bx (descends left n b y bx.3)
descends right n (node s b a) y bx h = level_or_leans right n s a b y _ h bx (descends right n b y bx.2)

pub joins : (n : ℕ) (l r : Tree) → Balanced l → Balanced r → Joined left n l r (join n l r)
joins n l r bl br = cond_both (leb (height r) (height l)) _ _ (Joined left n l r)
    (λ q. let h = leb-true (height r) (height l) q in descends left n l r bl (omega arith))
    (λ q. let h = leb-false (height r) (height l) q in ⊎_elim
    (λ far. Joined.exchange far (descends right n r l br (omega arith)))
    (λ near. rw (descend_level right n r l near) (Joined.level {x = l} {y = r} (omega arith) near)) (cases_lt (height l + 1) (height r)))

-- a join of any two trees, by the same steps: what holds whatever the heights is proved of this
pub data Written : Side → ℕ → Tree → Tree → Built → Type 0 where
  level : {side : Side} {n : ℕ} {x y : Tree} → Written side n x y (write n (plain side x y))
  lower : {side : Side} {n : ℕ} {y : Tree} {t : Built} {u : Brackets} (s : ℕ) (a b : Tree) → Written side n b y t → Leaned side a t.tree u →
      Written side n (on side s a b) y (then t (write (n + length t.new) u))
  exchange : {side : Side} {n : ℕ} {x y : Tree} {b : Built} → Written (other side) n y x b → Written side n x y b

pub written : {side : Side} {n : ℕ} {x y : Tree} {b : Built} → Joined side n x y b → Written side n x y b
written (Joined.level p q) = Written.level
written (Joined.lower s a b p j k) = Written.lower s a b (written j) k
written (Joined.exchange p j) = Written.exchange (written j)

level_or_lean_writes : (side : Side) (n s : ℕ) (a b y : Tree) (t : Built) → Written side n b y t → Written side n (on side s a b) y (level_or_lean side n (on side s a b) y a t)
level_or_lean_writes side n s a b y t w = cond_both (leb (height (on side s a b)) (height y + 1)) _ _ (Written side n (on side s a b) y)
    (λ _. Written.level) (λ _. Written.lower s a b w (leans side a _))

descend_writes : (side : Side) (n : ℕ) (x y : Tree) → Written side n x y (descend side n x y)
descend_writes side n (piece s k i m) y = Written.level
descend_writes left n (node s a b) y = level_or_lean_writes left n s a b y _ (descend_writes left n b y)
descend_writes right n (node s b a) y = level_or_lean_writes right n s a b y _ (descend_writes right n b y)

pub join_writes : (n : ℕ) (l r : Tree) → Written left n l r (join n l r)
join_writes n l r = cond_both (leb (height r) (height l)) _ _ (Written left n l r) (λ _. descend_writes left n l r) (λ _. Written.exchange (descend_writes right n r l))
