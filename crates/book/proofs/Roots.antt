-- Roots, which are missing for the empty string: their trees stay, and joins and splits keep the number of bytes.
use Rattle.std.proofs.Common.{◌≡◌, ℕ, ◌+◌, ◌<◌, ◌≤◌, List, [], length, get_or, Some, None, Ok, Err, Option, Result, sym, refl, ap, ◌∙◌, subst, ⊎_elim, arith}
use Rattle.std.proofs.lemmas.Bool.{cases_lt}
use Rattle.shelf.specs.Texts.{limit}
use Rattle.tree.specs.Tree.{Tree, size}
use Rattle.tree.specs.Rules.{split}
use Rattle.tree.specs.Edits as rules
use Rattle.tree.specs.Edits.{size_any, join_any, split_any, Level}
use Rattle.tree.proofs.Shape.{join_writes}
use Rattle.tree.proofs.Measure.{join_size}
use Rattle.tree.proofs.Spell.{split_sizes}
use Rattle.tree.proofs.Splits.{splits}
use Rattle.tree.proofs.Steps.{split_at_start, split_at_end, split_inside}
use Rattle.book.specs.declared.node.Built.{Built}
use Rattle.book.specs.declared.node.NoRoom.{NoRoom}
use Rattle.book.specs.Records.{no_node, Store, Ready, tree_in}
use Rattle.book.specs.Building.{Wrote, Lacks}
use Rattle.book.specs.Parting.{Inside, Parted}
use Rattle.book.specs.Changing.{Root, any_in, Has, HasHalves, Halved}
use Rattle.book.proofs.Stores.{stands_at, stays, more_used, nothing}

pub any_stays : {s s' : Store} {new : List Tree} → Ready s → Wrote s s' new → (i : Option ℕ) → Root s.used i → any_in s' i ≡ any_in s i
any_stays d w None h = refl
any_stays d w (Some i) h = ap Some (stays d w i h)

pub root_stays : {s s' : Store} {new : List Tree} → Wrote s s' new → (i : Option ℕ) → Root s.used i → Root s'.used i
root_stays w None h = tt
root_stays w (Some i) h = let le = more_used w in omega arith

pub any_short : {s : Store} → Ready s → (i : Option ℕ) → Root s.used i → size_any (any_in s i) ≤ limit
any_short d None h = omega arith
any_short d (Some i) h = (stands_at d i h).short

pub any_level : {s : Store} → Ready s → (i : Option ℕ) → Root s.used i → Level (any_in s i)
any_level d None h = tt
any_level d (Some i) h = (stands_at d i h).balanced

-- sizes
split_any_size : (n : ℕ) (t : Option Tree) (p : ℕ) → Level t → size_any (split_any n t p).left + size_any (split_any n t p).right ≡ size_any t
split_any_size n None p b = refl
split_any_size n (Some t) p b = ⊎_elim
    (λ (h : 0 < p). ⊎_elim
    (λ (k : p < size t). rw (split_inside n t p h k) (split_sizes (splits n t p b h k)))
    (λ (k : size t ≤ p). rw (split_at_end n t p h k) (omega arith)) (cases_lt p (size t)))
    (λ (h : p ≤ 0). let e : p ≡ 0 = omega arith in rw (split_at_start n t p e) (omega arith)) (cases_lt 0 p)

pub halves_size : {s s' : Store} (t : Option ℕ) (p : ℕ) (q : Built (Option ℕ × Option ℕ)) → Ready s → Root s.used t → HasHalves s s' (split_any s.used (any_in s t) p) q →
    size_any (any_in s' q.value.0) + size_any (any_in s' q.value.1) ≡ size_any (any_in s t)
halves_size {s} t p q d r h =
    let x = h.left in
    let y = h.right in rw (x, y) (split_any_size s.used (any_in s t) p (any_level d t r))

join_any_size : (n : ℕ) (l r : Option Tree) → size_any (join_any n l r).tree ≡ size_any l + size_any r
join_any_size n None r = omega arith
join_any_size n (Some l) None = omega arith
join_any_size n (Some l) (Some r) = join_size (join_writes n l r)

pub joined_size : {s s' : Store} (l r : Option ℕ) (q : Built (Option ℕ)) → Has s s' (join_any s.used (any_in s l) (any_in s r)) q →
    size_any (any_in s' q.value) ≡ size_any (any_in s l) + size_any (any_in s r)
joined_size {s} l r q h = let x = h.tree in rw x (join_any_size s.used (any_in s l) (any_in s r))

-- a split anywhere
halved_as : {s s' : Store} {b c : rules.Halves} {r : Result (Built (Option ℕ × Option ℕ)) NoRoom} → b ≡ c → Halved s s' b r → Halved s s' c r
halved_as {s} {s'} {r = r} e g = subst (λ x. Halved s s' x r) e g

module _ {s : Store} (t : Option ℕ) (i p : ℕ) (d : Ready s) (r : Root s.used t) (e : t ≡ Some i) (h : 0 < p) where
  held : i < s.used
  held = rw e at r

  some : any_in s t ≡ Some (tree_in s i)
  some = rw e

  pub end_halves : (get_or s.records i no_node).len ≤ p → Halved s s (split_any s.used (any_in s t) p) (Ok (record { value = (Some i, None); made = 0 }))
  end_halves l =
      let k = stands_at d i held in
      let f : split_any s.used (any_in s t) p ≡ record { new = []; left = Some (tree_in s i); right = None }
      = ap (λ z. split_any s.used z p) some ∙ split_at_end s.used (tree_in s i) p h (omega arith) in
      halved_as (sym f) (record { case = record { wrote = nothing d; left_root = held; right_root = tt; left = refl; right = refl; made = refl } })

  module _ (l : p < (get_or s.records i no_node).len) where
    pub is_inside : Inside s i p
    is_inside = let k = stands_at d i held in record { ready = d; slot = held; above = h; below = omega arith }

    inside : record { new = (split s.used (tree_in s i) p).new; left = Some (split s.used (tree_in s i) p).left; right = Some (split s.used (tree_in s i) p).right }
        ≡ split_any s.used (any_in s t) p
    inside = sym (ap (λ z. split_any s.used z p) some ∙ split_inside s.used (tree_in s i) p h is_inside.below)

    pub inside_fails : {s' : Store} {er : NoRoom} → Lacks s s' (length (split s.used (tree_in s i) p).new) → Halved s s' (split_any s.used (any_in s t) p) (Err er)
    inside_fails q = halved_as inside (record { case = q })

    pub inside_halves : {s' : Store} (q : Built (ℕ × ℕ)) → Parted s s' (split s.used (tree_in s i) p) q →
        Halved s s' (split_any s.used (any_in s t) p) (Ok (record { value = (Some q.value.0, Some q.value.1); made = q.made }))
    inside_halves q m = halved_as inside (record {
      case = record { wrote = m.wrote; left_root = m.left_slot; right_root = m.right_slot; left = ap Some m.left; right = ap Some m.right; made = m.made };
    })
