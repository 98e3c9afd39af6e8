-- How many slots an edit takes.
use Rattle.std.proofs.Common.{ℕ, ◌+◌, ◌*◌, ◌≤◌, max, eqb, leb, length, Some, None, Option, arith, length-append}
use Rattle.std.proofs.lemmas.Bool.{cond_both, leb-false, eqb-false}
use Rattle.tree.specs.Tree.{Tree, piece, height, size, Balanced}
use Rattle.tree.specs.Edits
use Rattle.tree.specs.Edits.{Made, Halves, Level, height_any}
use Rattle.tree.proofs.Shape.{joins}
use Rattle.tree.proofs.Balance.{even, cost}
use Rattle.tree.proofs.Splits.{splits, split_even}

-- the result is balanced and at most `h` high, and at most `c` slots are taken
pub record BuiltLow (b : Made) (h c : ℕ) : Type 0 where
  pub level : Level b.tree
  pub high : height_any b.tree ≤ h
  pub cost : length b.new ≤ c

pub record SplitLow (q : Halves) (h c : ℕ) : Type 0 where
  pub left : Level q.left
  pub right : Level q.right
  pub left_high : height_any q.left ≤ h
  pub right_high : height_any q.right ≤ h
  pub cost : length q.new ≤ c

pub join_any : (n : ℕ) (l r : Option Tree) (h : ℕ) → Level l → Level r → height_any l ≤ h + 1 → height_any r ≤ h + 1 →
    BuiltLow (Edits.join_any n l r) (max (height_any l) (height_any r) + 1) (3 * h + 1)
join_any n None r h bl br hl hr = record { level = br; high = omega arith; cost = omega arith }
join_any n (Some l) None h bl br hl hr = record { level = bl; high = omega arith; cost = omega arith }
join_any n (Some l) (Some r) h bl br hl hr =
    let j = joins n l r bl br in
    let v = even j bl br in
    record { level = v.result.balanced; high = v.result.high; cost = cost j bl br h (omega arith) (omega arith) }

pub level_join : (n : ℕ) (l r : Option Tree) → Level l → Level r → Level (Edits.join_any n l r).tree
level_join n l r bl br = (join_any n l r (height_any l + height_any r) bl br (omega arith) (omega arith)).level

pub split_any : (n : ℕ) (t : Option Tree) (p : ℕ) → Level t → SplitLow (Edits.split_any n t p) (height_any t) (7 * height_any t + 2)
split_any n None p bt = record { left = tt; right = tt; left_high = omega arith; right_high = omega arith; cost = omega arith }
split_any n (Some t) p bt = cond_both (eqb p 0) _ _ (λ q. SplitLow q (height t) (7 * height t + 2))
    (λ q. record { left = tt; right = bt; left_high = omega arith; right_high = omega arith; cost = omega arith })
    (λ q. let z = eqb-false p 0 q in cond_both (leb (size t) p) _ _ (λ q. SplitLow q (height t) (7 * height t + 2))
    (λ o. record { left = bt; right = tt; left_high = omega arith; right_high = omega arith; cost = omega arith })
    (λ o. let v = split_even (splits n t p bt (omega arith) (leb-false (size t) p o)) bt in
    record { left = v.left; right = v.right; left_high = v.left_high; right_high = v.right_high; cost = omega (arith, v.cost, v.left_high, v.right_high) }))

pub put : (n : ℕ) (t : Option Tree) (p : ℕ) (x : Tree) (h : ℕ) → Level t → Balanced x → height_any t ≤ h → height x ≤ h → length (Edits.put n t p x).new ≤ 13 * h + 4
put n t p x h bt bx ht hx =
    let q = split_any n t p bt in
    let l = Edits.split_any n t p in
    let a = join_any (n + length l.new) l.left (Some x) h q.left bx (omega (arith, q.left_high)) (omega arith) in
    let m = Edits.join_any (n + length l.new) l.left (Some x) in
    let b = join_any (n + length l.new + length m.new) m.tree l.right h a.level q.right (omega (arith, a.high, q.left_high)) (omega (arith, q.right_high)) in
    simp length-append (omega (arith, q.cost, a.cost, b.cost))

pub put_piece : (n : ℕ) (t : Option Tree) (p k i m h : ℕ) → Level t → height_any t ≤ h → length (Edits.put_piece n t p k i m).new ≤ 13 * h + 5
put_piece n t p k i m h bt ht = omega (arith, put (n + 1) t p (piece n k i m) h bt tt ht (omega arith))

pub put_any : (n : ℕ) (t : Option Tree) (p : ℕ) (x : Option Tree) (h : ℕ) → Level t → Level x → height_any t ≤ h → height_any x ≤ h →
    length (Edits.put_any n t p x).new ≤ 13 * h + 4
put_any n t p None h bt bx ht hx = omega arith
put_any n t p (Some x) h bt bx ht hx = put n t p x h bt bx ht hx

pub crop : (n : ℕ) (t : Option Tree) (p m h : ℕ) → Level t → height_any t ≤ h → length (Edits.crop n t p m).new ≤ 14 * h + 4
crop n t p m h bt ht =
    let q = split_any n t p bt in
    let l = Edits.split_any n t p in
    let k = split_any (n + length l.new) l.right m q.right in
    simp length-append (omega (arith, q.cost, k.cost, q.right_high))

pub cut : (n : ℕ) (t : Option Tree) (p m h : ℕ) → Level t → height_any t ≤ h → length (Edits.cut n t p m).new ≤ 17 * h + 5
cut n t p m h bt ht =
    let q = split_any n t p bt in
    let l = Edits.split_any n t p in
    let k = split_any (n + length l.new) l.right m q.right in
    let r = Edits.split_any (n + length l.new) l.right m in
    let b = join_any (n + length l.new + length r.new) l.left r.right h q.left k.right (omega (arith, q.left_high)) (omega (arith, q.right_high, k.right_high)) in
    cond_both (eqb m 0) _ _ (λ (y : Made). length y.new ≤ 17 * h + 5) (λ z. omega arith) (λ z. simp length-append (omega (arith, q.cost, k.cost, q.right_high, b.cost)))
