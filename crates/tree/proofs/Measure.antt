-- What a join keeps of any two trees, whatever the heights.
use Rattle.std.proofs.Common.{◌≡◌, ℕ, ◌+◌, ◌≤◌, length, sym, refl, ◌∙◌, add_assoc, arith, length-append}
use Rattle.std.specs.List.{AllByRecursion}
use Rattle.std.proofs.ByRecursion.{All-append}
use Rattle.tree.specs.Tree.{Tree, node, slot, size}
use Rattle.tree.specs.Side.{Side, left, right, other}
use Rattle.tree.specs.Rules.{Built, Brackets, old, after, write, plain}
use Rattle.tree.specs.Relations.{on, Leaned}
use Rattle.tree.proofs.Sides.{size_on, up_on, down_on}
use Rattle.tree.proofs.Writing.{drawn, drawn_plain, drawn_once, drawn_twice, measure_written, kept_written, all_written, slot_written, after_is, length_written}
use Rattle.tree.proofs.Shape.{Written}

-- the operation, with its first argument on the side
abbrev pub at : {X : Type 0} → (X → X → X) → Side → X → X → X
at op left x y = op x y
at op right x y = op y x

at_other : {X : Type 0} (op : X → X → X) (side : Side) (x y : X) → at op (other side) y x ≡ at op side x y
at_other op left x y = refl
at_other op right x y = refl

pub at_plus : (side : Side) (x y : ℕ) → at ◌+◌ side x y ≡ x + y
at_plus left x y = refl
at_plus right x y = omega arith

-- a measure that adds up over a node, by an operation that may be regrouped
module _ {X : Type 0} (μ : Tree → X) (op : X → X → X) (assoc : (x y z : X) → op (op x y) z ≡ op x (op y z))
    (at_node : (s : ℕ) (l r : Tree) → μ (node s l r) ≡ op (μ l) (μ r)) where
  at_on : (side : Side) (s : ℕ) (a b : Tree) → μ (on side s a b) ≡ at op side (μ a) (μ b)
  at_on left s a b = at_node s a b
  at_on right s a b = at_node s b a

  regroup : (side : Side) (x y z : X) → at op side (at op side x y) z ≡ at op side x (at op side y z)
  regroup left x y z = assoc x y z
  regroup right x y z = sym (assoc z y x)

  leaned : {side : Side} {a t : Tree} {x : Brackets} → Leaned side a t x → μ (drawn x) ≡ at op side (μ a) (μ t)
  leaned (Leaned.flat {side} {a} {t} o) = rw (drawn_plain side a t) (at_on side 0 a t)
  leaned (Leaned.once {side} {a} s c d o p) = rw (drawn_once side a c d) (simp (at_on, regroup))
  leaned (Leaned.twice {side} {a} s u e f d o p) = rw (drawn_twice side a e f d) (simp (at_on, regroup))

  pub measured : {side : Side} {n : ℕ} {x y : Tree} {b : Built} → Written side n x y b → μ b.tree ≡ at op side (μ x) (μ y)
  measured (Written.level {side} {n} {x} {y}) = measure_written μ op at_node n (plain side x y) ∙ rw (drawn_plain side x y) (at_on side 0 x y)
  measured (Written.lower {t = t} {u = u} s a b w l) = measure_written μ op at_node _ u ∙ leaned l ∙ simp (measured w, at_on, regroup)
  measured (Written.exchange {side} {n} {x} {y} w) = measured w ∙ at_other op side (μ x) (μ y)

-- a property that a node has if both of its sides have it, and only then
module _ (Q : Tree → Type 0) (up : (s : ℕ) (l r : Tree) → Q l → Q r → Q (node s l r)) (down : (s : ℕ) (l r : Tree) → Q (node s l r) → Q l × Q r) where
  leaned_has : {side : Side} {a t : Tree} {x : Brackets} → Leaned side a t x → Q a → Q t → Q (drawn x)
  leaned_has (Leaned.flat {side} {a} {t} o) qa qt = rw (drawn_plain side a t) (up_on Q up side 0 a t qa qt)
  leaned_has (Leaned.once {side} {a} s c d o p) qa qt =
      let cd = down_on Q down side s c d qt in
      rw (drawn_once side a c d) (up_on Q up side 0 (on side 0 a c) d (up_on Q up side 0 a c qa cd.0) cd.1)
  leaned_has (Leaned.twice {side} {a} s u e f d o p) qa qt =
      let cd = down_on Q down side s (on side u e f) d qt in
      let ef = down_on Q down side u e f cd.0 in
      rw (drawn_twice side a e f d) (up_on Q up side 0 (on side 0 a e) (on side 0 f d) (up_on Q up side 0 a e qa ef.0) (up_on Q up side 0 f d ef.1 cd.1))

  written_has : (n : ℕ) (x : Brackets) → Q (drawn x) → Q (write n x).tree × AllByRecursion Q (write n x).new
  written_has n x q = let t = kept_written Q up down n x q in (t, all_written Q down n x t)

  pub kept : {side : Side} {n : ℕ} {x y : Tree} {b : Built} → Written side n x y b → Q x → Q y → Q b.tree × AllByRecursion Q b.new
  kept (Written.level {side} {n} {x} {y}) qx qy = written_has n (plain side x y) (rw (drawn_plain side x y) (up_on Q up side 0 x y qx qy))
  kept (Written.lower {side} {n} {y} {t} {u} s a b w l) qx qy =
      let ab = down_on Q down side s a b qx in
      let i = kept w ab.1 qy in
      let e = written_has (n + length t.new) u (leaned_has l ab.0 i.0) in (e.0, All-append Q t.new _ i.1 e.1)
  kept (Written.exchange w) qx qy = kept w qy qx

-- no tree that is written is longer than the result
pub join_size : {side : Side} {n : ℕ} {x y : Tree} {b : Built} → Written side n x y b → size b.tree ≡ size x + size y
join_size {side} {n} {x} {y} w = measured size ◌+◌ add_assoc (λ s l r. refl) w ∙ at_plus side (size x) (size y)

small_written : (m n : ℕ) (x : Brackets) → size (write n x).tree ≤ m → AllByRecursion (λ t. size t ≤ m) (write n x).new
small_written m n x h = all_written (λ t. size t ≤ m) (λ s l r k. (omega arith, omega arith)) n x h

pub join_small : {side : Side} {n : ℕ} {x y : Tree} {b : Built} → Written side n x y b → (m : ℕ) → size x + size y ≤ m → AllByRecursion (λ t. size t ≤ m) b.new
join_small (Written.level {side} {n} {x} {y}) m h = small_written m n (plain side x y) (omega (arith, join_size (Written.level {side = side} {n = n} {x = x} {y = y})))
join_small (Written.lower {side} {n} {y} {t} {u} s a b w l) m h =
    let z = size_on side s a b in
    All-append (λ t. size t ≤ m) t.new _ (join_small w m (omega arith)) (small_written m (n + length t.new) u (omega (arith, join_size (Written.lower s a b w l))))
join_small (Written.exchange w) m h = join_small w m (omega arith)

-- the result is the last of the trees written
leaned_last : {side : Side} {a t : Tree} {x : Brackets} → Leaned side a t x → (n : ℕ) → slot (write n x).tree + 1 ≡ after n x
leaned_last (Leaned.flat {side} o) n = slot_written side n _ _
leaned_last (Leaned.once {side} s c d o p) n = slot_written side n _ _
leaned_last (Leaned.twice {side} s u e f d o p) n = slot_written side n _ _

pub last : {side : Side} {n : ℕ} {x y : Tree} {b : Built} → Written side n x y b → slot b.tree + 1 ≡ n + length b.new
last (Written.level {side} {n} {x} {y}) =
    let z = plain side x y in omega (arith, slot_written side n (old x) (old y), after_is n z, length_written n z)
last (Written.lower {n = n} {t = t} {u = u} s a b w l) =
    let m = n + length t.new in simp length-append (omega (arith, leaned_last l m, after_is m u, length_written m u))
last (Written.exchange w) = last w
