-- With the slots forgotten, the functions build what the relations on bare trees allow, and take as many slots as the rules that were applied.
use Rattle.std.proofs.Common.{◌≡◌, ℕ, ◌+◌, ◌-◌, ◌≤◌, eqb, leb, ◌↔◌, length, Some, None, Option, sym, refl, ◌∙◌, ap₂, arith, length-append}
use Rattle.std.proofs.lemmas.Bool.{cond_both, leb-true, leb-false, eqb-true, eqb-false}
use Rattle.tree.specs.Tree.{Tree, piece, node, Balanced}
use Rattle.tree.specs.Tree
use Rattle.tree.specs.Side.{Side, left, right}
use Rattle.tree.specs.Rules.{Built, Parts, Brackets, old, write, plain, lean}
use Rattle.tree.specs.Relations
use Rattle.tree.specs.Relations.{Leaned, Joined, Split}
use Rattle.tree.specs.Edits.{Made, Halves, Level, size_any}
use Rattle.tree.specs.Edits
use Rattle.tree.specs.Bare.{fork, leaf, forget, forget_any, on, height, size, Leans, Joins, Splits, JoinAny, SplitAny, Put, PutAny, Cut, Crop}
use Rattle.tree.specs.Facts.{BareTrees, BareEdits, BareCounts, FollowBareRules}
use Rattle.tree.specs.Made.{leans_made, joins_made, splits_made, join_any_made, split_any_made, put_made, put_any_made, cut_made, crop_made}
use Rattle.tree.proofs.Writing.{drawn, drawn_plain, drawn_once, drawn_twice, measure_written, pairs, pairs_on, length_written}
use Rattle.tree.proofs.Shape.{leans, joins}
use Rattle.tree.proofs.Splits.{splits, split_size}
use Rattle.tree.proofs.Spell.{split_sizes}
use Rattle.tree.proofs.Costs
use Rattle.tree.proofs.Outcome.{one_lean, one_join, one_split, one_join_any, one_split_any, one_put, one_put_any, one_cut, one_crop}

pub height_forget : (t : Tree) → height (forget t) ≡ Tree.height t
height_forget (piece s k i m) = refl
height_forget (node s l r) = rw (height_forget l, height_forget r)

pub size_forget : (t : Tree) → size (forget t) ≡ Tree.size t
size_forget (piece s k i m) = refl
size_forget (node s l r) = rw (size_forget l, size_forget r)

forget_on : (side : Side) (s : ℕ) (a b : Tree) → forget (Relations.on side s a b) ≡ on side (forget a) (forget b)
forget_on left s a b = refl
forget_on right s a b = refl

forget_written : (n : ℕ) (x : Brackets) → forget (write n x).tree ≡ forget (drawn x)
forget_written n x = measure_written forget fork (λ s l r. refl) n x

leaned : {side : Side} {a t : Tree} {x : Brackets} → Leaned side a t x → (d : Leans side (forget a) (forget t) (forget (drawn x))) × (leans_made d ≡ pairs x)
leaned (Leaned.flat {side} {a} {t} o) =
    rw (drawn_plain side a t, forget_on side 0 a t) (Leans.plain (simp (← height_forget) at o), sym (pairs_on side (old a) (old t)))
leaned (Leaned.once {side} {a} s c d o p) =
    rw (drawn_once side a c d, forget_on side 0 (Relations.on side 0 a c) d, forget_on side 0 a c) (
      Leans.once (forget c) (forget d) (simp (← height_forget) at o) (forget_on side s c d) (simp (← height_forget) at p),
      sym (simp pairs_on),
    )
leaned (Leaned.twice {side} {a} s u e f d o p) =
    rw (drawn_twice side a e f d, forget_on side 0 (Relations.on side 0 a e) (Relations.on side 0 f d), forget_on side 0 a e, forget_on side 0 f d) (
      Leans.twice (forget (Relations.on side u e f)) (forget d) (forget e) (forget f) (simp (← height_forget) at o) (forget_on side s (Relations.on side u e f) d)
          (simp (← height_forget) at p) (forget_on side u e f),
      sym (simp pairs_on),
    )

joined : {side : Side} {n : ℕ} {x y : Tree} {b : Built} → Joined side n x y b → (d : Joins side (forget x) (forget y) (forget b.tree)) × (joins_made d ≡ length b.new)
joined (Joined.level {side} {n} {x} {y} p q) =
    rw (forget_written n (plain side x y), drawn_plain side x y, forget_on side 0 x y) (
      Joins.level (simp (← height_forget) at p) (simp (← height_forget) at q),
      sym (length_written n (plain side x y) ∙ pairs_on side (old x) (old y)),
    )
joined (Joined.lower {side} {n} {y} {t} {u} s a b p j l) =
    let inner = joined j in
    let lean = leaned l in
    rw (forget_written (n + length t.new) u) (
      Joins.lower (forget a) (forget b) (simp (← height_forget) at p) (forget_on side s a b) inner.0 lean.0,
      ap₂ ◌+◌ inner.1 (lean.1 ∙ sym (length_written (n + length t.new) u)) ∙ sym (length-append t.new (write (n + length t.new) u).new),
    )
joined (Joined.exchange p j) = let mirrored = joined j in (Joins.exchange (simp (← height_forget) at p) mirrored.0, mirrored.1)

split : {n p : ℕ} {t : Tree} {q : Parts} → Split n t p q → (d : Splits (forget t) p (forget q.left) (forget q.right)) × (splits_made d ≡ length q.new)
split (Split.halve x y) = (Splits.halve x y, refl)
split (Split.smaller {n} {s} {p} {l} {r} {q} {b} x i j) =
    let inner = split i in
    let join = joined j in
    (Splits.smaller (simp (← size_forget) at x) inner.0 join.0, ap₂ ◌+◌ inner.1 join.1 ∙ sym (length-append q.new b.new))
split (Split.between x) = (Splits.between (simp (← size_forget) at x), refl)
split (Split.larger {n} {s} {p} {rest} {l} {r} {q} {b} x y i j) =
    let inner = split i in
    let join = joined j in
    (Splits.larger (simp (← size_forget) at x) y inner.0 join.0, ap₂ ◌+◌ inner.1 join.1 ∙ sym (length-append q.new b.new))

join_any : (n : ℕ) (l r : Option Tree) → Level l → Level r →
    (d : JoinAny (forget_any l) (forget_any r) (forget_any (Edits.join_any n l r).tree)) × (join_any_made d ≡ length (Edits.join_any n l r).new)
join_any n None r bl br = (JoinAny.no_left, refl)
join_any n (Some l) None bl br = (JoinAny.no_right, refl)
join_any n (Some l) (Some r) bl br = let j = joined (joins n l r bl br) in (JoinAny.both j.0, j.1)

-- a split in range, and the length of its right part
record Halved (t : Option Tree) (p : ℕ) (h : Halves) : Type 0 where
  splits : SplitAny (forget_any t) p (forget_any h.left) (forget_any h.right)
  made : split_any_made splits ≡ length h.new
  rest : size_any h.right ≡ size_any t - p

split_any : (n : ℕ) (t : Option Tree) (p : ℕ) → Level t → p ≤ size_any t → Halved t p (Edits.split_any n t p)
split_any n None p bt h = record { splits = SplitAny.nothing; made = refl; rest = omega arith }
split_any n (Some t) p bt h = cond_both (eqb p 0) _ _ (Halved (Some t) p)
    (λ q. let z = eqb-true p 0 q in record { splits = SplitAny.start z; made = refl; rest = omega arith })
    (λ q. let z = eqb-false p 0 q in cond_both (leb (Tree.size t) p) _ _ (Halved (Some t) p)
    (λ o. let big = leb-true (Tree.size t) p o in record { splits = SplitAny.end (omega arith) (rw (size_forget t) (omega arith)); made = refl; rest = omega arith })
    (λ o. let less = leb-false (Tree.size t) p o in
    let s = splits n t p bt (omega arith) less in
    let d = split s in
    record { splits = SplitAny.inside (omega arith) (rw (size_forget t) less) d.0; made = d.1; rest = omega (arith, split_sizes s, split_size s) }))

put : (n : ℕ) (t : Option Tree) (p : ℕ) (x : Tree) → Level t → Balanced x → p ≤ size_any t →
    (d : Put (forget_any t) p (forget x) (forget_any (Edits.put n t p x).tree)) × (put_made d ≡ length (Edits.put n t p x).new)
put n t p x bt bx h =
    let q = Edits.split_any n t p in
    let v = Costs.split_any n t p bt in
    let a = Edits.join_any (n + length q.new) q.left (Some x) in
    let b = Edits.join_any (n + length q.new + length a.new) a.tree q.right in
    let s = split_any n t p bt h in
    let i = join_any (n + length q.new) q.left (Some x) v.left bx in
    let j = join_any (n + length q.new + length a.new) a.tree q.right (Costs.level_join (n + length q.new) q.left (Some x) v.left bx) v.right in
    (Put.puts s.splits i.0 j.0, simp length-append (omega (arith, s.made, i.1, j.1)))

put_piece : (n : ℕ) (t : Option Tree) (p k i m : ℕ) → Level t → p ≤ size_any t →
    (d : Put (forget_any t) p (leaf k i m) (forget_any (Edits.put_piece n t p k i m).tree)) × (put_made d + 1 ≡ length (Edits.put_piece n t p k i m).new)
put_piece n t p k i m bt h = let d = put (n + 1) t p (piece n k i m) bt tt h in (d.0, omega (arith, d.1))

put_any : (n : ℕ) (t : Option Tree) (p : ℕ) (x : Option Tree) → Level t → Level x → p ≤ size_any t →
    (d : PutAny (forget_any t) p (forget_any x) (forget_any (Edits.put_any n t p x).tree)) × (put_any_made d ≡ length (Edits.put_any n t p x).new)
put_any n t p None bt bx h = (PutAny.nothing, refl)
put_any n t p (Some x) bt bx h = let d = put n t p x bt bx h in (PutAny.some d.0, d.1)

cut : (n : ℕ) (t : Option Tree) (p m : ℕ) → Level t → p + m ≤ size_any t →
    (d : Cut (forget_any t) p m (forget_any (Edits.cut n t p m).tree)) × (cut_made d ≡ length (Edits.cut n t p m).new)
cut n t p m bt h =
    let q = Edits.split_any n t p in
    let v = Costs.split_any n t p bt in
    let s = split_any n t p bt (omega arith) in
    let w = Edits.split_any (n + length q.new) q.right m in
    let r = split_any (n + length q.new) q.right m v.right (omega (arith, s.rest)) in
    let j = join_any (n + length q.new + length w.new) q.left w.right v.left (Costs.split_any (n + length q.new) q.right m v.right).right in
    cond_both (eqb m 0) _ _ (λ (b : Made). (d : Cut (forget_any t) p m (forget_any b.tree)) × (cut_made d ≡ length b.new))
    (λ e. (Cut.nothing (eqb-true m 0 e), refl))
    (λ e. let z = eqb-false m 0 e in
    (Cut.some (omega arith) s.splits r.splits j.0, simp length-append (omega (arith, s.made, r.made, j.1))))

crop : (n : ℕ) (t : Option Tree) (p m : ℕ) → Level t → p + m ≤ size_any t →
    (d : Crop (forget_any t) p m (forget_any (Edits.crop n t p m).tree)) × (crop_made d ≡ length (Edits.crop n t p m).new)
crop n t p m bt h =
    let q = Edits.split_any n t p in
    let s = split_any n t p bt (omega arith) in
    let r = split_any (n + length q.new) q.right m (Costs.split_any n t p bt).right (omega (arith, s.rest)) in
    (Crop.crops s.splits r.splits, simp length-append (omega (arith, s.made, r.made)))

-- where a relation leaves no choice, what it allows is what the function builds
exactly : {X : Type 0} (R : X → Type 0) {built : X} → ((x y : X) → R x → R y → x ≡ y) → R built → (x : X) → R x ↔ built ≡ x
exactly R {built} one r x = (λ s. one built x r s, λ e. rw e at r)

exactly_two : {X : Type 0} (R : X → X → Type 0) {a b : X} → ((x y v w : X) → R x y → R v w → (x ≡ v) × (y ≡ w)) → R a b → (x y : X) → R x y ↔ (a ≡ x) × (b ≡ y)
exactly_two R {a} {b} one r x y = (λ s. one a b x y r s, λ e. rw (e.0, e.1) at r)

bare_trees : BareTrees
bare_trees = record {
  leans = λ side n a t. exactly (Leans side (forget a) (forget t)) (λ x y. one_lean) (rw (forget_written n (lean side a t)) (leaned (leans side a t)).0);
  joins = λ n l r bl br. exactly (Joins left (forget l) (forget r)) (λ x y. one_join) (joined (joins n l r bl br)).0;
  splits = λ n t p bt h k. exactly_two (Splits (forget t) p) (λ x y v w. one_split) (split (splits n t p bt h k)).0;
}

bare_edits : (n : ℕ) (t : Option Tree) → Level t → BareEdits n t
bare_edits n t bt = record {
  joins = λ x bx. exactly (JoinAny (forget_any t) (forget_any x)) (λ x y. one_join_any) (join_any n t x bt bx).0;
  splits = λ p h. exactly_two (SplitAny (forget_any t) p) (λ x y v w. one_split_any) (split_any n t p bt h).splits;
  puts_piece = λ p k i m h. exactly (Put (forget_any t) p (forget (piece n k i m))) (λ x y. one_put) (put_piece n t p k i m bt h).0;
  puts = λ p x h bx. exactly (PutAny (forget_any t) p (forget_any x)) (λ x y. one_put_any) (put_any n t p x bt bx h).0;
  cuts = λ p m h. exactly (Cut (forget_any t) p m) (λ x y. one_cut) (cut n t p m bt h).0;
  crops = λ p m h. exactly (Crop (forget_any t) p m) (λ x y. one_crop) (crop n t p m bt h).0;
}

bare_counts : (n : ℕ) (t : Option Tree) → Level t → BareCounts n t
bare_counts n t bt = record {
  puts_piece = λ p k i m h. put_piece n t p k i m bt h;
  puts = λ p x h bx. put_any n t p x bt bx h;
  cuts = λ p m h. cut n t p m bt h;
  crops = λ p m h. crop n t p m bt h;
}

pub follow_bare_rules : FollowBareRules
follow_bare_rules = (bare_trees, bare_edits, bare_counts)
