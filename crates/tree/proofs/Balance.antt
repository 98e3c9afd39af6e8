-- A join of balanced trees is balanced, and takes few slots.
use Rattle.std.proofs.Common.{◌≡◌, ℕ, ◌+◌, ◌-◌, ◌*◌, ◌≤◌, max, length, refl, arith, length-append}
use native.Mathlib.Nat.{max_comm}
use Rattle.std.specs.List.{AllByRecursion}
use Rattle.std.proofs.ByRecursion.{All-append}
use Rattle.tree.specs.Tree.{Tree, height, Balanced}
use Rattle.tree.specs.Side.{Side}
use Rattle.tree.specs.Rules.{Built, Brackets, old, pair, after, write, pair_on, plain}
use Rattle.tree.specs.Relations.{on, Leaned, Joined}
use Rattle.tree.proofs.Sides.{height_on, balanced_on, balanced_parts}
use Rattle.tree.proofs.Writing.{drawn, drawn_plain, drawn_once, drawn_twice, measure_written, all_written, pairs, pairs_on, length_written}

-- balanced, and `h` high or one more
pub record Even (h : ℕ) (t : Tree) : Type 0 where
  pub balanced : Balanced t
  pub low : h ≤ height t
  pub high : height t ≤ h + 1

height_written : (n : ℕ) (x : Brackets) → height (write n x).tree ≡ height (drawn x)
height_written n x = measure_written height (λ l r. max l r + 1) (λ s l r. refl) n x

balanced_written : (n : ℕ) (x : Brackets) → Balanced (drawn x) → Balanced (write n x).tree
balanced_written n (old t) b = b
balanced_written n (pair x y) b =
    let p = height_written n x in
    let q = height_written (after n x) y in (omega (arith, b.0), omega (arith, b.1), balanced_written n x b.2, balanced_written (after n x) y b.3)

even_written : (h n : ℕ) (x : Brackets) → Even h (drawn x) → Even h (write n x).tree
even_written h n x e = let z = height_written n x in record { balanced = balanced_written n x e.balanced; low = omega (arith, e.low); high = omega (arith, e.high) }

-- T, of height `h` or one more, takes the place of a tree of height `h` beside A
leaned_even : {side : Side} {a t : Tree} {x : Brackets} → Leaned side a t x → (h : ℕ) → Balanced a → height a ≤ h + 1 → h ≤ height a + 1 → Even h t →
    Even (max (height a) h + 1) (drawn x)
leaned_even (Leaned.flat {side} {a} {t} o) h ba h1 h2 t' =
    let k = height_on side 0 a t in
    rw (drawn_plain side a t) (record {
      balanced = balanced_on side 0 a t (omega (arith, t'.low)) o ba t'.balanced;
      low = omega (arith, t'.low);
      high = omega (arith, t'.high);
    })
leaned_even (Leaned.once {side} {a} s c d o p) h ba h1 h2 t' =
    let cd = balanced_parts side s c d t'.balanced in
    let k = height_on side s c d in
    let k1 = height_on side 0 a c in
    let k2 = height_on side 0 (on side 0 a c) d in
    let low = t'.low in
    let high = t'.high in
    let ac = balanced_on side 0 a c (omega arith) (omega arith) ba cd.2 in
    rw (drawn_once side a c d) (record { balanced = balanced_on side 0 (on side 0 a c) d (omega arith) (omega arith) ac cd.3; low = omega arith; high = omega arith })
leaned_even (Leaned.twice {side} {a} s u e f d o p) h ba h1 h2 t' =
    let cd = balanced_parts side s (on side u e f) d t'.balanced in
    let ef = balanced_parts side u e f cd.2 in
    let k = height_on side s (on side u e f) d in
    let k1 = height_on side u e f in
    let k2 = height_on side 0 a e in
    let k3 = height_on side 0 f d in
    let k4 = height_on side 0 (on side 0 a e) (on side 0 f d) in
    let low = t'.low in
    let high = t'.high in
    let ae = balanced_on side 0 a e (omega arith) (omega arith) ba ef.2 in
    let fd = balanced_on side 0 f d (omega arith) (omega arith) ef.3 cd.3 in
    rw (drawn_twice side a e f d)
    (record { balanced = balanced_on side 0 (on side 0 a e) (on side 0 f d) (omega arith) (omega arith) ae fd; low = omega arith; high = omega arith })

all_balanced : (n : ℕ) (x : Brackets) → Balanced (write n x).tree → AllByRecursion Balanced (write n x).new
all_balanced n x b = all_written Balanced (λ s l r h. (h.2, h.3)) n x b

pub record Evenly (h : ℕ) (b : Built) : Type 0 where
  pub result : Even h b.tree
  pub all : AllByRecursion Balanced b.new

pub even : {side : Side} {n : ℕ} {x y : Tree} {b : Built} → Joined side n x y b → Balanced x → Balanced y → Evenly (max (height x) (height y)) b
even (Joined.level {side} {n} {x} {y} p q) bx by =
    let k = height_on side 0 x y in
    let e = even_written (max (height x) (height y)) n (plain side x y)
    (rw (drawn_plain side x y) (record { balanced = balanced_on side 0 x y p q bx by; low = omega arith; high = omega arith })) in
    record { result = e; all = all_balanced n (plain side x y) e.balanced }
even (Joined.lower {side} {n} {y} {t} {u} s a b p j l) bx by =
    let ab = balanced_parts side s a b bx in
    let k = height_on side s a b in
    let i = even j ab.3 by in
    let same : max (height b) (height y) ≡ height b = omega arith in
    let e = even_written _ (n + length t.new) u (leaned_even l (height b) ab.2 ab.0 ab.1 (rw same at i.result)) in
    let new_max : max (height a) (height b) + 1 ≡ max (height (on side s a b)) (height y) = omega arith in
    record { result = rw new_max at e; all = All-append Balanced t.new _ i.all (all_balanced (n + length t.new) u e.balanced) }
even (Joined.exchange {side} {n} {x} {y} p j) bx by = rw (max_comm (height x) (height y)) (even j by bx)

-- what a turn costs
leaned_pairs : {side : Side} {a t : Tree} {x : Brackets} → Leaned side a t x → pairs x ≤ 3
leaned_pairs (Leaned.flat {side} {a} {t} o) = omega (arith, pairs_on side (old a) (old t))
leaned_pairs (Leaned.once {side} {a} s c d o p) = omega (arith, pairs_on side (pair_on side (old a) (old c)) (old d), pairs_on side (old a) (old c))
leaned_pairs (Leaned.twice {side} {a} s u e f d o p) =
    omega (arith, pairs_on side (pair_on side (old a) (old e)) (pair_on side (old f) (old d)), pairs_on side (old a) (old e), pairs_on side (old f) (old d))

-- heights that differ by at most 1 cost one slot, and each further one three
pub cost : {side : Side} {n : ℕ} {x y : Tree} {b : Built} → Joined side n x y b → Balanced x → Balanced y → (d : ℕ) →
    height x ≤ height y + (d + 1) → height y ≤ height x + (d + 1) → length b.new ≤ 3 * d + 1
cost (Joined.level {side} {n} {x} {y} p q) bx by d h1 h2 = omega (arith, length_written n (plain side x y), pairs_on side (old x) (old y))
cost (Joined.lower {side} {n} {y} {t} {u} s a b p j l) bx by d h1 h2 =
    let ab = balanced_parts side s a b bx in
    let k = height_on side s a b in
    simp length-append
    (omega (arith, cost j ab.3 by (d - 1) (omega arith) (omega arith), length_written (n + length t.new) u, leaned_pairs l))
cost (Joined.exchange p j) bx by d h1 h2 = cost j by bx d h2 h1
