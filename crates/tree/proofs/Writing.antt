-- What is written around old trees.
use Rattle.std.proofs.Common.{◌≡◌, ℕ, ◌+◌, length, refl, arith, length-append}
use Rattle.std.specs.List.{AllByRecursion}
use Rattle.std.proofs.ByRecursion.{All-append}
use Rattle.tree.specs.Tree.{Tree, node, slot}
use Rattle.tree.specs.Side.{Side, left, right}
use Rattle.tree.specs.Rules.{Brackets, old, pair, after, write, pair_on, plain, turn_once, turn_twice}
use Rattle.tree.specs.Relations.{on}

-- the tree without the slots that writing it gives
abbrev pub drawn : Brackets → Tree
drawn (old t) = t
drawn (pair x y) = node 0 (drawn x) (drawn y)

drawn_on : (side : Side) (x y : Brackets) → drawn (pair_on side x y) ≡ on side 0 (drawn x) (drawn y)
drawn_on left x y = refl
drawn_on right x y = refl

pub drawn_plain : (side : Side) (a t : Tree) → drawn (plain side a t) ≡ on side 0 a t
drawn_plain side a t = drawn_on side (old a) (old t)

pub drawn_once : (side : Side) (a c d : Tree) → drawn (turn_once side a c d) ≡ on side 0 (on side 0 a c) d
drawn_once side a c d = simp drawn_on

pub drawn_twice : (side : Side) (a e f d : Tree) → drawn (turn_twice side a e f d) ≡ on side 0 (on side 0 a e) (on side 0 f d)
drawn_twice side a e f d = simp drawn_on

-- a property of the old trees
abbrev pub Olds : (Tree → Type 0) → Brackets → Type 0
Olds Q (old t) = Q t
Olds Q (pair x y) = Olds Q x × Olds Q y

pub olds_on : (Q : Tree → Type 0) (side : Side) (x y : Brackets) → Olds Q x → Olds Q y → Olds Q (pair_on side x y)
olds_on Q left x y p q = (p, q)
olds_on Q right x y p q = (q, p)

pub olds_map : (P Q : Tree → Type 0) → ((t : Tree) → P t → Q t) → (x : Brackets) → Olds P x → Olds Q x
olds_map P Q f (old t) p = f t p
olds_map P Q f (pair x y) p = (olds_map P Q f x p.0, olds_map P Q f y p.1)

-- a measure by the sides alone does not see the slots
pub measure_written : {X : Type 0} (μ : Tree → X) (op : X → X → X) → ((s : ℕ) (l r : Tree) → μ (node s l r) ≡ op (μ l) (μ r)) →
    (n : ℕ) (x : Brackets) → μ (write n x).tree ≡ μ (drawn x)
measure_written μ op at_node n (old t) = refl
measure_written μ op at_node n (pair x y) = simp (at_node, measure_written μ op at_node n x, measure_written μ op at_node (after n x) y)

-- a property that a node has if both of its sides have it, and only then, does not see the slots either
pub kept_written : (Q : Tree → Type 0) → ((s : ℕ) (l r : Tree) → Q l → Q r → Q (node s l r)) → ((s : ℕ) (l r : Tree) → Q (node s l r) → Q l × Q r) →
    (n : ℕ) (x : Brackets) → Q (drawn x) → Q (write n x).tree
kept_written Q up down n (old t) q = q
kept_written Q up down n (pair x y) q =
    let z = down 0 (drawn x) (drawn y) q in up _ _ _ (kept_written Q up down n x z.0) (kept_written Q up down (after n x) y z.1)

-- what passes from a tree to its sides passes from the result to all that is written
pub all_written : (Q : Tree → Type 0) → ((s : ℕ) (l r : Tree) → Q (node s l r) → Q l × Q r) → (n : ℕ) (x : Brackets) → Q (write n x).tree → AllByRecursion Q (write n x).new
all_written Q down n (old t) q = tt
all_written Q down n (pair x y) q =
    let z = down _ (write n x).tree (write (after n x) y).tree q in
    All-append Q (write n x).new _ (all_written Q down n x z.0) (All-append Q (write (after n x) y).new _ (all_written Q down (after n x) y z.1) (q, tt))

-- the number of bracket pairs
abbrev pub pairs : Brackets → ℕ
pairs (old t) = 0
pairs (pair x y) = pairs x + pairs y + 1

pub pairs_on : (side : Side) (x y : Brackets) → pairs (pair_on side x y) ≡ pairs x + pairs y + 1
pairs_on left x y = refl
pairs_on right x y = omega arith

pub length_written : (n : ℕ) (x : Brackets) → length (write n x).new ≡ pairs x
length_written n (old t) = refl
length_written n (pair x y) = simp length-append (omega (arith, length_written n x, length_written (after n x) y))

pub after_is : (n : ℕ) (x : Brackets) → after n x ≡ n + pairs x
after_is n (old t) = omega arith
after_is n (pair x y) = omega (arith, after_is n x, after_is (after n x) y)

pub slot_written : (side : Side) (n : ℕ) (x y : Brackets) → slot (write n (pair_on side x y)).tree + 1 ≡ after n (pair_on side x y)
slot_written left n x y = refl
slot_written right n x y = refl
