-- The bytes, the lengths and the bounds of joins and splits.
use Rattle.std.proofs.Common.{◌≡◌, ℕ, ◌+◌, ◌-◌, ◌≤◌, List, ◌++◌, length, take, drop, sym, refl, ap, ◌∙◌, append_assoc, add_assoc, arith, length-append, length-drop, take-append-drop, length-take}
use Rattle.std.specs.List.{AllByRecursion}
use Rattle.std.proofs.ByRecursion.{All-append}
use Rattle.std.proofs.lemmas.List.{take-take, drop-drop, drop-take, take_at, drop_at}
use Rattle.shelf.specs.Texts.{text, stretch}
use Rattle.tree.specs.Tree.{Tree, piece, node, size, Within, spell}
use Rattle.tree.specs.Rules.{Built, Parts}
use Rattle.tree.specs.Side.{left}
use Rattle.tree.specs.Relations.{Split}
use Rattle.tree.proofs.Shape.{Written, written}
use Rattle.tree.proofs.Measure.{measured, kept, join_small}
use Rattle.tree.proofs.Splits.{split_measured, split_kept, split_size}

pub length_spell : (texts : List (List ℕ)) (t : Tree) → Within texts t → length (spell texts t) ≡ size t
length_spell texts (piece s k i m) w = simp (length-take, length-drop) (omega arith)
length_spell texts (node s l r) w = simp (length-append, length_spell texts l w.0, length_spell texts r w.1)

stretch_in_two : (from m p : ℕ) (bytes : List ℕ) → p ≤ m → stretch from p bytes ++ stretch (from + p) (m - p) bytes ≡ stretch from m bytes
stretch_in_two from m p bytes h =
    let e : p + (m - p) ≡ m = omega arith in
    let f : take p (take m (drop from bytes)) ≡ take p (drop from bytes) = take-take p m (drop from bytes) h in
    let g : drop p (take (p + (m - p)) (drop from bytes)) ≡ take (m - p) (drop p (drop from bytes)) = drop-take p (m - p) (drop from bytes) in
    rw (← drop-drop) (cc (take-append-drop p (take m (drop from bytes))))

module _ (texts : List (List ℕ)) where
  pub join_spell : {n : ℕ} {l r : Tree} {b : Built} → Written left n l r b → spell texts b.tree ≡ spell texts l ++ spell texts r
  join_spell j = measured (spell texts) ◌++◌ append_assoc (λ s l r. refl) j

  pub join_within : {n : ℕ} {l r : Tree} {b : Built} → Written left n l r b → Within texts l → Within texts r → Within texts b.tree × AllByRecursion (Within texts) b.new
  join_within j = kept (Within texts) (λ s l r a b. (a, b)) (λ s l r h. h) j

  pub split_spell : {n p : ℕ} {t : Tree} {q : Parts} → Split n t p q → spell texts q.left ++ spell texts q.right ≡ spell texts t
  split_spell s = split_measured (spell texts) ◌++◌ append_assoc (λ s l r. refl)
      (λ n s k i m p h. stretch_in_two i m p (text texts k) (omega arith)) s

  pub split_within : {n p : ℕ} {t : Tree} {q : Parts} → Split n t p q → Within texts t → Within texts q.left × Within texts q.right × AllByRecursion (Within texts) q.new
  split_within s = split_kept (Within texts) (λ s l r a b. (a, b)) (λ s l r h. h)
      (λ n s k i m p h1 h2 w. ((h1, w.1, omega arith), (omega arith, w.1, omega arith))) s

pub split_sizes : {n p : ℕ} {t : Tree} {q : Parts} → Split n t p q → size q.left + size q.right ≡ size t
split_sizes s = split_measured size ◌+◌ add_assoc (λ s l r. refl) (λ n s k i m p h. omega arith) s

-- no tree that is written is longer than what is split
pub split_small : {n p : ℕ} {t : Tree} {q : Parts} → Split n t p q → (m : ℕ) → size t ≤ m → AllByRecursion (λ x. size x ≤ m) q.new
split_small (Split.halve x y) m h = omega arith
split_small (Split.smaller {q = q} {b = b} x s j) m h =
    All-append (λ x. size x ≤ m) q.new b.new (split_small s m (omega arith)) (join_small (written j) m (omega (arith, split_sizes s)))
split_small (Split.between x) m h = tt
split_small (Split.larger {q = q} {b = b} x y s j) m h =
    All-append (λ x. size x ≤ m) q.new b.new (split_small s m (omega arith)) (join_small (written j) m (omega (arith, split_sizes s)))

-- the two parts are the front and the rest
pub split_front : (texts : List (List ℕ)) {n p : ℕ} {t : Tree} {q : Parts} → Split n t p q → Within texts t →
    (spell texts q.left ≡ take p (spell texts t)) × (spell texts q.right ≡ drop p (spell texts t))
split_front texts {n} {p} {t} {q} s w =
    let e = split_spell texts s in
    let l = length_spell texts q.left (split_within texts s w).0 ∙ split_size s in (
      sym (take_at (spell texts q.left) (spell texts q.right) p l) ∙ ap (take p) e,
      sym (drop_at (spell texts q.left) (spell texts q.right) p l) ∙ ap (drop p) e,
    )
