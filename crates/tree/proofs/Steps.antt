-- The functions one step at a time: what each is after a test that code makes.
use Rattle.std.proofs.Common.{◌≡◌, ℕ, ◌+◌, ◌-◌, ◌<◌, ◌≤◌, [], ◌++◌, length, Some, None, Option, sym, refl, ◌∙◌, ⊎_elim, arith}
use Rattle.std.proofs.lemmas.Bool.{cases_lt, cond-true, cond-false, le-leb, lt-leb, lt-ltb, le-ltb, eq-eqb, ne_eqb}
use Rattle.tree.specs.Tree.{Tree, piece, node, height, size}
use Rattle.tree.specs.Side.{Side, left, right, other}
use Rattle.tree.specs.Rules.{Built, then, write, plain, turn_once, turn_twice, turn, lean, descend, join, with_right, with_left, split}
use Rattle.tree.specs.Relations.{on}
use Rattle.tree.specs.Edits.{as_it_is, join_any, split_any, cut}

-- T beside A
pub lean_plain : (side : Side) (a t : Tree) → height t ≤ height a + 1 → lean side a t ≡ plain side a t
lean_plain side a (piece s k i m) h = refl
lean_plain side a (node s x y) h = cond-true _ _ _ (le-leb _ _ h)

lean_turn : (side : Side) (s : ℕ) (a c d : Tree) → height a + 1 < height (on side s c d) → lean side a (on side s c d) ≡ turn side a c d
lean_turn left s a c d h = cond-false _ _ _ (lt-leb _ _ h)
lean_turn right s a c d h = cond-false _ _ _ (lt-leb _ _ h)

turn_is_once : (side : Side) (a c d : Tree) → height c ≤ height d → turn side a c d ≡ turn_once side a c d
turn_is_once side a (piece s k i m) d h = refl
turn_is_once side a (node s x y) d h = cond-true _ _ _ (le-leb _ _ h)

turn_is_twice : (side : Side) (u : ℕ) (a e f d : Tree) → height d < height (on side u e f) → turn side a (on side u e f) d ≡ turn_twice side a e f d
turn_is_twice left u a e f d h = cond-false _ _ _ (lt-leb _ _ h)
turn_is_twice right u a e f d h = cond-false _ _ _ (lt-leb _ _ h)

pub lean_once : (side : Side) (s : ℕ) (a c d : Tree) → height a + 1 < height (on side s c d) → height c ≤ height d → lean side a (on side s c d) ≡ turn_once side a c d
lean_once side s a c d x y = lean_turn side s a c d x ∙ turn_is_once side a c d y

pub lean_twice : (side : Side) (s u : ℕ) (a e f d : Tree) → height a + 1 < height (on side s (on side u e f) d) → height d < height (on side u e f) →
    lean side a (on side s (on side u e f) d) ≡ turn_twice side a e f d
lean_twice side s u a e f d x y = lean_turn side s a (on side u e f) d x ∙ turn_is_twice side u a e f d y

-- down the higher tree
pub descend_level : (side : Side) (n : ℕ) (x y : Tree) → height x ≤ height y + 1 → descend side n x y ≡ write n (plain side x y)
descend_level side n (piece s k i m) y h = refl
descend_level left n (node s a b) y h = cond-true _ _ _ (le-leb _ _ h)
descend_level right n (node s b a) y h = cond-true _ _ _ (le-leb _ _ h)

pub descend_lower : (side : Side) (n s : ℕ) (a b y : Tree) → height y + 1 < height (on side s a b) →
    descend side n (on side s a b) y ≡ then (descend side n b y) (write (n + length (descend side n b y).new) (lean side a (descend side n b y).tree))
descend_lower left n s a b y h = cond-false _ _ _ (lt-leb _ _ h)
descend_lower right n s a b y h = cond-false _ _ _ (lt-leb _ _ h)

-- the join of `x`, which stands on the side, with `y`
abbrev pub join_on : Side → ℕ → Tree → Tree → Built
join_on left n x y = join n x y
join_on right n x y = join n y x

-- a join goes down the higher tree; at equal heights both ways are one
pub join_descends : (side : Side) (n : ℕ) (x y : Tree) → height y ≤ height x → join_on side n x y ≡ descend side n x y
join_descends left n x y h = cond-true _ _ _ (le-leb _ _ h)
join_descends right n x y h = ⊎_elim (λ k. cond-false _ _ _ (lt-leb _ _ k))
    (λ (k : height x ≤ height y). cond-true _ _ _ (le-leb _ _ k) ∙ descend_level left n y x (omega arith) ∙ sym (descend_level right n x y (omega arith)))
    (cases_lt (height y) (height x))

pub join_exchange : (side : Side) (n : ℕ) (x y : Tree) → join_on side n x y ≡ join_on (other side) n y x
join_exchange left n x y = refl
join_exchange right n x y = refl

write_exchange : (side : Side) (n : ℕ) (x y : Tree) → write n (plain side x y) ≡ write n (plain (other side) y x)
write_exchange left n x y = refl
write_exchange right n x y = refl

pub join_level : (side : Side) (n : ℕ) (x y : Tree) → height x ≤ height y + 1 → height y ≤ height x + 1 → join_on side n x y ≡ write n (plain side x y)
join_level side n x y h k = ⊎_elim
    (λ (o : height x < height y). join_exchange side n x y ∙ join_descends (other side) n y x (omega arith) ∙ descend_level (other side) n y x k ∙ sym (write_exchange side n x y))
    (λ o. join_descends side n x y o ∙ descend_level side n x y h) (cases_lt (height x) (height y))

pub join_lower : (side : Side) (n s : ℕ) (a b y : Tree) → height y + 1 < height (on side s a b) → height y ≤ height b →
    join_on side n (on side s a b) y ≡ then (join_on side n b y) (write (n + length (join_on side n b y).new) (lean side a (join_on side n b y).tree))
join_lower side n s a b y h k =
    rw (join_descends side n b y k) (join_descends side n (on side s a b) y (omega arith) ∙ descend_lower side n s a b y h)

pub split_smaller : (n s : ℕ) (l r : Tree) (p : ℕ) → p < size l →
    split n (node s l r) p ≡ with_right (split n l p) (join (n + length (split n l p).new) (split n l p).right r)
split_smaller n s l r p h = cond-true _ _ _ (lt-ltb _ _ h)

pub split_between : (n s : ℕ) (l r : Tree) (p : ℕ) → p ≡ size l → split n (node s l r) p ≡ record { new = []; left = l; right = r }
split_between n s l r p h = cond-false _ _ _ (le-ltb p (size l) (omega arith)) ∙ cond-true _ _ _ (eq-eqb _ _ h)

pub split_larger : (n s : ℕ) (l r : Tree) (p : ℕ) → size l < p →
    split n (node s l r) p ≡ with_left (split n r (p - size l)) (join (n + length (split n r (p - size l)).new) l (split n r (p - size l)).left)
split_larger n s l r p h = cond-false _ _ _ (le-ltb p (size l) (omega arith)) ∙ cond-false _ _ _ (ne_eqb p (size l) (omega arith))

pub split_at_start : (n : ℕ) (t : Tree) (p : ℕ) → p ≡ 0 → split_any n (Some t) p ≡ record { new = []; left = None; right = Some t }
split_at_start n t p h = cond-true _ _ _ (eq-eqb _ _ h)

pub split_at_end : (n : ℕ) (t : Tree) (p : ℕ) → 0 < p → size t ≤ p → split_any n (Some t) p ≡ record { new = []; left = Some t; right = None }
split_at_end n t p h k = cond-false _ _ _ (ne_eqb p 0 (omega arith)) ∙ cond-true _ _ _ (le-leb _ _ k)

pub split_inside : (n : ℕ) (t : Tree) (p : ℕ) → 0 < p → p < size t →
    split_any n (Some t) p ≡ record { new = (split n t p).new; left = Some (split n t p).left; right = Some (split n t p).right }
split_inside n t p h k = cond-false _ _ _ (ne_eqb p 0 (omega arith)) ∙ cond-false _ _ _ (lt-leb _ _ k)

pub cut_nothing : (n : ℕ) (t : Option Tree) (p m : ℕ) → m ≡ 0 → cut n t p m ≡ as_it_is t
cut_nothing n t p m h = cond-true _ _ _ (eq-eqb _ _ h)

pub cut_some : (n : ℕ) (t : Option Tree) (p m : ℕ) → 0 < m →
    let h = split_any n t p in
    let k = split_any (n + length h.new) h.right m in
    let b = join_any (n + length h.new + length k.new) h.left k.right in
    cut n t p m ≡ record { new = h.new ++ (k.new ++ b.new); tree = b.tree }
cut_some n t p m h = cond-false _ _ _ (ne_eqb m 0 (omega arith))
