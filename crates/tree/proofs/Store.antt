-- What is built is stored.
use Rattle.std.proofs.Common.{◌≡◌, ℕ, zero, suc, ◌+◌, ◌<◌, List, [], ◌∷◌, ◌++◌, length, get_or, sym, ◌∙◌, subst, append_assoc, append-nil, arith, length-append}
use lib.ListN.{get_or-append}
use Rattle.std.specs.List.{AllByRecursion}
use Rattle.std.proofs.lemmas.List.{get_or_push}
use Rattle.tree.specs.Tree.{Tree, piece, node, slot}
use Rattle.tree.specs.Side.{Side}
use Rattle.tree.specs.Rules.{Built, Brackets, old, pair, after, write, plain}
use Rattle.tree.specs.Relations.{on, Leaned}
use Rattle.tree.specs.Stored.{Held, Stored, Fresh, Grows, Placed}
use Rattle.tree.proofs.Sides.{down_on}
use Rattle.tree.proofs.Writing.{Olds, olds_on, olds_map, after_is, length_written}
use Rattle.tree.proofs.Shape.{Written}

held_more : (trees new : List Tree) (t : Tree) → Held trees t → Held (trees ++ new) t
held_more trees new t h = (simp length-append (omega (arith, h.0)), λ d. get_or-append trees new d (slot t) h.0 ∙ h.1 d)

pub stored_more : (trees new : List Tree) (t : Tree) → Stored trees t → Stored (trees ++ new) t
stored_more trees new (piece s k i m) h = held_more trees new (piece s k i m) h
stored_more trees new (node s l r) h = (held_more trees new (node s l r) h.0, stored_more trees new l h.1, stored_more trees new r h.2)

held_last : (trees : List Tree) (t : Tree) → slot t ≡ length trees → Held (trees ++ t ∷ []) t
held_last trees t e = (simp length-append (omega arith), λ d. get_or_push trees t d (slot t) (sym e))

-- what is written is stored
pub stored_last : (trees : List Tree) (t : Tree) → Fresh trees t → Stored (trees ++ t ∷ []) t
stored_last trees (piece s k i m) h = held_last trees (piece s k i m) h
stored_last trees (node s l r) h = (held_last trees (node s l r) h.0, stored_more trees (node s l r ∷ []) l h.1, stored_more trees (node s l r ∷ []) r h.2)

pub grows_append : (trees a b : List Tree) → Grows trees a → Grows (trees ++ a) b → Grows trees (a ++ b)
grows_append trees [] b g h = rw append-nil at h
grows_append trees (t ∷ a) b g h = (g.0, grows_append (trees ++ t ∷ []) a b g.1 (rw append_assoc h))

pub all_stored : (trees new : List Tree) → Grows trees new → AllByRecursion (Stored (trees ++ new)) new
all_stored trees [] g = tt
all_stored trees (t ∷ new) g =
    let e : trees ++ t ∷ [] ++ new ≡ trees ++ (t ∷ new) = append_assoc trees (t ∷ []) new in (
      subst (λ (x : List Tree). Stored x t) e (stored_more (trees ++ t ∷ []) new t (stored_last trees t g.0)),
      subst (λ (x : List Tree). AllByRecursion (Stored x) new) e (all_stored (trees ++ t ∷ []) new g.1),
    )

fresh_slot : (trees : List Tree) (t : Tree) → Fresh trees t → slot t ≡ length trees
fresh_slot trees (piece s k i m) h = h
fresh_slot trees (node s l r) h = h.0

-- the slots of the new trees, in order
pub slots : (trees new : List Tree) → Grows trees new → (j : ℕ) (d : Tree) → j < length new → slot (get_or new j d) ≡ length trees + j
slots trees [] g j d h = absurd (omega arith)
slots trees (t ∷ new) g zero d h = fresh_slot trees t g.0 ∙ omega arith
slots trees (t ∷ new) g (suc j) d h = slots (trees ++ t ∷ []) new g.1 j d (omega arith) ∙ simp length-append (omega arith)

-- more is written behind what was
pub placed_then : (trees a b : List Tree) (t : Tree) → Grows trees a → Placed (trees ++ a) b t → Placed trees (a ++ b) t
placed_then trees a b t g p = record { grows = grows_append trees a b g p.grows; stored = rw append_assoc at p.stored }

placed_node : (trees : List Tree) (s : ℕ) (l r : Tree) → length trees ≡ s → Stored trees l → Stored trees r → Placed trees (node s l r ∷ []) (node s l r)
placed_node trees s l r e sl sr =
    let g : Grows trees (node s l r ∷ []) = ((sym e, sl, sr), tt) in
    record { grows = g; stored = stored_last trees (node s l r) g.0 }

-- what is written around stored trees is stored
placed_written : (n : ℕ) (x : Brackets) (trees : List Tree) → length trees ≡ n → Olds (Stored trees) x → Placed trees (write n x).new (write n x).tree
placed_written n (old t) trees h o = record { grows = tt; stored = stored_more trees [] t o }
placed_written n (pair x y) trees h o =
    let l = write n x in
    let r = write (after n x) y in
    let p = placed_written n x trees h o.0 in
    let e : length (trees ++ l.new) ≡ after n x = simp length-append (omega (arith, after_is n x, length_written n x)) in
    let q = placed_written (after n x) y (trees ++ l.new) e (olds_map (Stored trees) (Stored (trees ++ l.new)) (stored_more trees l.new) y o.1) in
    let f : length (trees ++ l.new ++ r.new) ≡ after (after n x) y = simp length-append (omega (arith, e, after_is (after n x) y, length_written (after n x) y, length-append trees l.new)) in
    placed_then trees l.new _ _ p.grows (placed_then (trees ++ l.new) r.new _ _ q.grows
    (placed_node (trees ++ l.new ++ r.new) _ l.tree r.tree f (stored_more (trees ++ l.new) r.new l.tree p.stored) q.stored))

module _ (trees : List Tree) where
  sides : (side : Side) (s : ℕ) (a b : Tree) → Stored trees (on side s a b) → Stored trees a × Stored trees b
  sides = down_on (Stored trees) (λ s l r h. (h.1, h.2))

  leaned_olds : {side : Side} {a t : Tree} {x : Brackets} → Leaned side a t x → Stored trees a → Stored trees t → Olds (Stored trees) x
  leaned_olds (Leaned.flat {side} {a} {t} o) sa st = olds_on (Stored trees) side (old a) (old t) sa st
  leaned_olds (Leaned.once {side} {a} s c d o p) sa st =
      let cd = sides side s c d st in
      olds_on (Stored trees) side _ (old d) (olds_on (Stored trees) side (old a) (old c) sa cd.0) cd.1
  leaned_olds (Leaned.twice {side} {a} s u e f d o p) sa st =
      let cd = sides side s (on side u e f) d st in
      let ef = sides side u e f cd.0 in
      olds_on (Stored trees) side _ _ (olds_on (Stored trees) side (old a) (old e) sa ef.0) (olds_on (Stored trees) side (old f) (old d) ef.1 cd.1)

pub placed : {side : Side} {n : ℕ} {x y : Tree} {b : Built} → Written side n x y b → (trees : List Tree) → length trees ≡ n → Stored trees x → Stored trees y →
    Placed trees b.new b.tree
placed (Written.level {side} {n} {x} {y}) trees h sx sy = placed_written n (plain side x y) trees h (olds_on (Stored trees) side (old x) (old y) sx sy)
placed (Written.lower {side} {n} {y} {t} {u} s a b w l) trees h sx sy =
    let ab = sides trees side s a b sx in
    let p = placed w trees h ab.1 sy in
    placed_then trees t.new _ _ p.grows
    (placed_written (n + length t.new) u (trees ++ t.new) (simp length-append (omega arith)) (leaned_olds (trees ++ t.new) l (stored_more trees t.new a ab.0) p.stored))
placed (Written.exchange w) trees h sx sy = placed w trees h sy sx
