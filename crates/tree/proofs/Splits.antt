-- What a split keeps.
use Rattle.std.proofs.Common.{◌≡◌, ℕ, ◌+◌, ◌-◌, ◌*◌, ◌<◌, ◌≤◌, eqb, ltb, List, [], ◌∷◌, ◌++◌, length, sym, refl, ◌∙◌, append_assoc, append-nil, add_assoc, arith, length-append}
use Rattle.std.specs.List.{AllByRecursion}
use Rattle.std.proofs.ByRecursion.{All-append}
use Rattle.std.proofs.lemmas.Bool.{cond_both, ltb-true, ltb-false, eqb-true, eqb-false}
use Rattle.tree.specs.Tree.{Tree, piece, node, height, size, Balanced}
use Rattle.tree.specs.Rules
use Rattle.tree.specs.Rules.{Parts}
use Rattle.tree.specs.Relations.{Split}
use Rattle.tree.specs.Stored.{Stored, PlacedBoth}
use Rattle.tree.proofs.Shape.{joins, written}
use Rattle.tree.proofs.Balance.{even, cost}
use Rattle.tree.proofs.Measure.{measured, kept}
use Rattle.tree.proofs.Store.{stored_more, stored_last, placed_then, placed}

-- balance, heights and costs
pub record SplitEven (t : Tree) (q : Parts) : Type 0 where
  pub left : Balanced q.left
  pub right : Balanced q.right
  pub all : AllByRecursion Balanced q.new
  pub left_high : height q.left ≤ height t
  pub right_high : height q.right ≤ height t
  pub cost : length q.new ≤ 3 * height q.left + 3 * height q.right + height t + 2

pub split_even : {n p : ℕ} {t : Tree} {q : Parts} → Split n t p q → Balanced t → SplitEven t q
split_even (Split.halve x y) bt = record { left = tt; right = tt; all = (tt, (tt, tt)); left_high = omega arith; right_high = omega arith; cost = omega arith }
split_even (Split.smaller {l = l} {r = r} {q = q} {b = b} x s j) bt =
    let i = split_even s bt.2 in
    let e = even j i.right bt.3 in
    record {
      left = i.left;
      right = e.result.balanced;
      all = All-append Balanced q.new b.new i.all e.all;
      left_high = omega (arith, i.left_high);
      right_high = omega (arith, i.right_high, e.result.high);
      cost = simp length-append (omega (arith, i.cost, i.right_high, e.result.low, cost j i.right bt.3 (height r - height q.right) (omega (arith, i.right_high)) (omega arith)));
    }
split_even (Split.between x) bt = record { left = bt.2; right = bt.3; all = tt; left_high = omega arith; right_high = omega arith; cost = omega arith }
split_even (Split.larger {l = l} {r = r} {q = q} {b = b} x y s j) bt =
    let i = split_even s bt.3 in
    let e = even j bt.2 i.left in
    record {
      left = e.result.balanced;
      right = i.right;
      all = All-append Balanced q.new b.new i.all e.all;
      left_high = omega (arith, i.left_high, e.result.high);
      right_high = omega (arith, i.right_high);
      cost = simp length-append (omega (arith, i.cost, i.left_high, e.result.low, cost j bt.2 i.left (height l - height q.left) (omega arith) (omega (arith, i.left_high))));
    }

-- the function follows the rules
pub splits : (n : ℕ) (t : Tree) (p : ℕ) → Balanced t → 0 < p → p < size t → Split n t p (Rules.split n t p)
splits n (piece s k i m) p bt h1 h2 = Split.halve h1 h2
splits n (node s l r) p bt h1 h2 = cond_both (ltb p (size l)) _ _ (Split n (node s l r) p)
    (λ e. let a = ltb-true p (size l) e in let i = splits n l p bt.2 h1 a in Split.smaller a i (joins _ _ _ (split_even i bt.2).right bt.3))
    (λ e. let f = ltb-false p (size l) e in cond_both (eqb p (size l)) _ _ (Split n (node s l r) p)
    (λ g. Split.between (eqb-true p (size l) g))
    (λ g. let k = eqb-false p (size l) g in
    let i = splits n r (p - size l) bt.3 (omega arith) (omega arith) in
    Split.larger (omega arith) (omega arith) i (joins _ _ _ bt.2 (split_even i bt.3).left)))

pub split_size : {n p : ℕ} {t : Tree} {q : Parts} → Split n t p q → size q.left ≡ p
split_size (Split.halve x y) = refl
split_size (Split.smaller x s j) = split_size s
split_size (Split.between x) = sym x
split_size (Split.larger {l = l} x y s j) = measured size ◌+◌ add_assoc (λ s l r. refl) (written j) ∙ rw (split_size s) (sym x)

module _ {X : Type 0} (μ : Tree → X) (op : X → X → X) (assoc : (x y z : X) → op (op x y) z ≡ op x (op y z))
    (at_node : (s : ℕ) (l r : Tree) → μ (node s l r) ≡ op (μ l) (μ r))
    (at_piece : (n s k i m p : ℕ) → p < m → op (μ (piece n k i p)) (μ (piece (n + 1) k (i + p) (m - p))) ≡ μ (piece s k i m)) where
  pub split_measured : {n p : ℕ} {t : Tree} {q : Parts} → Split n t p q → op (μ q.left) (μ q.right) ≡ μ t
  split_measured (Split.halve {n} {s} {k} {i} {m} {p} x y) = at_piece n s k i m p y
  split_measured (Split.smaller x s j) = simp (measured μ op assoc at_node (written j), ← assoc, split_measured s, at_node)
  split_measured (Split.between x) = simp at_node
  split_measured (Split.larger x y s j) = simp (measured μ op assoc at_node (written j), assoc, split_measured s, at_node)

module _ (Q : Tree → Type 0) (up : (s : ℕ) (l r : Tree) → Q l → Q r → Q (node s l r)) (down : (s : ℕ) (l r : Tree) → Q (node s l r) → Q l × Q r)
    (halves : (n s k i m p : ℕ) → 0 < p → p < m → Q (piece s k i m) → Q (piece n k i p) × Q (piece (n + 1) k (i + p) (m - p))) where
  pub split_kept : {n p : ℕ} {t : Tree} {q : Parts} → Split n t p q → Q t → Q q.left × Q q.right × AllByRecursion Q q.new
  split_kept (Split.halve {n} {s} {k} {i} {m} {p} x y) h = let z = halves n s k i m p x y h in (z.0, z.1, (z.0, (z.1, tt)))
  split_kept (Split.smaller {s = u} {l = l} {r = r} {q = q} {b = b} x s j) h =
      let z = down u l r h in
      let i = split_kept s z.0 in
      let e = kept Q up down (written j) i.1 z.1 in (i.0, e.0, All-append Q q.new b.new i.2 e.1)
  split_kept (Split.between {s = u} {l = l} {r = r} x) h = let z = down u l r h in (z.0, z.1, tt)
  split_kept (Split.larger {s = u} {l = l} {r = r} {q = q} {b = b} x y s j) h =
      let z = down u l r h in
      let i = split_kept s z.1 in
      let e = kept Q up down (written j) z.0 i.0 in (e.0, i.1, All-append Q q.new b.new i.2 e.1)

pub split_placed : {n p : ℕ} {t : Tree} {q : Parts} → Split n t p q → (trees : List Tree) → length trees ≡ n → Stored trees t →
    PlacedBoth trees q.new q.left q.right
split_placed (Split.halve {n} {s} {k} {i} {m} {p} x y) trees h st =
    let a : Stored (trees ++ piece n k i p ∷ []) (piece n k i p) = stored_last trees (piece n k i p) (sym h) in
    let f : n + 1 ≡ length (trees ++ piece n k i p ∷ []) = simp length-append (omega arith) in
    record {
      grows = (sym h, (f, tt));
      left = rw append_assoc at (stored_more _ (piece (n + 1) k (i + p) (m - p) ∷ []) (piece n k i p) a);
      right = rw append_assoc at (stored_last (trees ++ piece n k i p ∷ []) (piece (n + 1) k (i + p) (m - p)) f);
    }
split_placed (Split.smaller {s = u} {l = l} {r = r} {q = q} {b = b} x s j) trees h st =
    let i = split_placed s trees h st.1 in
    let a = placed (written j) (trees ++ q.new) (simp length-append (omega arith)) i.right (stored_more trees q.new r st.2) in
    let c = placed_then trees q.new b.new b.tree i.grows a in
    record { grows = c.grows; left = rw append_assoc at (stored_more (trees ++ q.new) b.new q.left i.left); right = c.stored }
split_placed (Split.between {s = u} {l = l} {r = r} x) trees h st = record { grows = tt; left = rw append-nil st.1; right = rw append-nil st.2 }
split_placed (Split.larger {s = u} {l = l} {r = r} {q = q} {b = b} x y s j) trees h st =
    let i = split_placed s trees h st.2 in
    let a = placed (written j) (trees ++ q.new) (simp length-append (omega arith)) (stored_more trees q.new l st.1) i.left in
    let c = placed_then trees q.new b.new b.tree i.grows a in
    record { grows = c.grows; left = c.stored; right = rw append_assoc at (stored_more (trees ++ q.new) b.new q.right i.right) }
