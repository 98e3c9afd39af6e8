-- The unmatched brackets of two strings put together.
use Rattle.std.specs.Prelude.{◌≡◌, ℕ, ◌+◌, ◌-◌, ◌≤◌, Bool, true, false, cond, List, [], ◌∷◌, ◌++◌, length, fold, ◌==◌, refl}
use Rattle.std.proofs.Common.{sym, ap, ◌∙◌, arith}
use Rattle.std.proofs.lemmas.List.Sums.{fold-append}
use Rattle.std.proofs.lemmas.Bool.{cond_both, eqb-true, eqb-false}
use Rattle.rule.specs.declared.brackets.Unmatched.{Unmatched}
use Rattle.rule.specs.Rule.{Joins}
use Rattle.rule.specs.Brackets.{none, opened, closed, next, unmatched, joined_unmatched}

pub same : (u v : Unmatched) → u.closings ≡ v.closings → u.openings ≡ v.openings → u ≡ v
same u v c o =
    ap (λ n. record { closings = n; openings = u.openings }) c
    ∙ ap (λ n. record { closings = v.closings; openings = n }) o

-- joining with no greatest number
abbrev exact : Unmatched → Unmatched → Unmatched
exact u v =
    record {
      closings = u.closings + (v.closings - u.openings);
      openings = v.openings + (u.openings - v.closings);
    }

-- both ways of ")" in one, since a difference stops at 0
abbrev pub closing : Unmatched → Unmatched
closing u = record { closings = u.closings + (1 - u.openings); openings = u.openings - 1 }

pub closed_is : (u : Unmatched) → closed u ≡ closing u
closed_is u =
    cond_both
    (u.openings == 0)
    _
    _
    (λ v. v ≡ closing u)
    (λ e. let z = eqb-true u.openings 0 e in same _ _ (omega arith) (omega arith))
    (λ e. let z = eqb-false u.openings 0 e in same _ _ (omega arith) (omega arith))

-- a byte behind both strings is a byte behind the second
exact_by : (u v : Unmatched) (a c : Bool) →
    cond a (opened (exact u v)) (cond c (closed (exact u v)) (exact u v)) ≡ exact u (cond a (opened v) (cond c (closed v) v))
exact_by u v true c = same _ _ (omega arith) (omega arith)
exact_by u v false true =
    closed_is (exact u v) ∙ same _ (exact u (closing v)) (omega arith) (omega arith) ∙ ap (exact u) (sym (closed_is v))
exact_by u v false false = refl

exact_from : (u v : Unmatched) (bytes : List ℕ) → fold next (exact u v) bytes ≡ exact u (fold next v bytes)
exact_from u v [] = refl
exact_from u v (b ∷ bytes) =
    ap (λ w. fold next w bytes) (exact_by u v (b == 40) (b == 41)) ∙ exact_from u (next v b) bytes

unmatched_append : (x y : List ℕ) → unmatched (x ++ y) ≡ exact (unmatched x) (unmatched y)
unmatched_append x y =
    let u = unmatched x in
    fold-append next none x y
    ∙ ap (λ w. fold next w y) (same u (exact u none) (omega arith) (omega arith))
    ∙ exact_from u none y

-- a byte adds at most one bracket
next_most : (u : Unmatched) (a c : Bool) →
    let v = cond a (opened u) (cond c (closed u) u) in
    v.closings + v.openings ≤ u.closings + u.openings + 1
next_most u true c = omega arith
next_most u false true = rw (closed_is u) (omega arith)
next_most u false false = omega arith

from_most : (u : Unmatched) (bytes : List ℕ) →
    let v = fold next u bytes in
    v.closings + v.openings ≤ u.closings + u.openings + length bytes
from_most u [] = omega arith
from_most u (b ∷ bytes) = omega (arith, next_most u (b == 40) (b == 41), from_most (next u b) bytes)

pub unmatched_most : (x : List ℕ) → (unmatched x).closings + (unmatched x).openings ≤ length x
unmatched_most x = omega (arith, from_most none x)

pub unmatched_joins : Joins unmatched joined_unmatched
unmatched_joins x y short =
    let p = unmatched_most x in
    let q = unmatched_most y in
    same _ (exact (unmatched x) (unmatched y)) (omega arith) (omega arith) ∙ sym (unmatched_append x y)
