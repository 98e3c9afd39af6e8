-- Stretches of strings that are laid one behind the other.
use Rattle.std.proofs.Common.{◌≡◌, ℕ, ◌+◌, ◌-◌, ◌≤◌, List, ◌++◌, length, take, drop, sym, ap, ◌∙◌, ap₂, arith, length-drop, take-append-drop, length-take}
use borrow.Rule.Slice.PartMut.{post_of}
use lib.Seq.{drop-append-add}
use Rattle.std.proofs.lemmas.List.{drop-drop, drop-take, take-take, take_at, take-append-le, drop-append-le}
use Rattle.shelf.specs.Texts.{stretch}

-- a stretch of a stretch
pub stretch_inner : (at from n : ℕ) (s : List ℕ) → stretch from n (drop at s) ≡ stretch (at + from) n s
stretch_inner at from n s = ap (take n) (drop-drop from at s)

-- a stretch in two parts
pub stretch_parts : (from p q : ℕ) (s : List ℕ) → stretch from (p + q) s ≡ stretch from p s ++ stretch (from + p) q s
stretch_parts from p q s =
    sym (take-append-drop p (stretch from (p + q) s))
    ∙ ap₂ (λ (x y : List ℕ). x ++ y) (take-take p (p + q) (drop from s) (omega arith)) (drop-take p q (drop from s) ∙ stretch_inner from p q s)

module _ (a b : List ℕ) (from n : ℕ) where
  pub stretch_left : from + n ≤ length a → stretch from n (a ++ b) ≡ stretch from n a
  stretch_left h =
      ap (take n) (drop-append-le from a b (omega arith)) ∙ take-append-le n (drop from a) b (omega (arith, length-drop from a))

  pub stretch_right : length a ≤ from → stretch from n (a ++ b) ≡ stretch (from - length a) n b
  stretch_right h =
      let e : from ≡ length a + (from - length a) = omega arith in
      ap (λ (i : ℕ). stretch i n (a ++ b)) e ∙ ap (take n) (drop-append-add a b (from - length a))

-- across the seam
pub stretch_both : (a b : List ℕ) (from p q : ℕ) → from + p ≡ length a → stretch from (p + q) (a ++ b) ≡ stretch from p a ++ stretch 0 q b
stretch_both a b from p q e =
    let z : from + p - length a ≡ 0 = omega arith in
    stretch_parts from p q (a ++ b)
    ∙ ap₂ (λ (x y : List ℕ). x ++ y) (stretch_left a b from p (omega arith)) (stretch_right a b (from + p) q (omega arith) ∙ ap (λ (i : ℕ). stretch i q b) z)

-- a buffer whose first `n` bytes were filled from place `at` of a string
pub filled_front : (s : List ℕ) (at n : ℕ) (out front : List ℕ) → n ≤ length out → front ≡ stretch at (length (take (n - 0) out)) s →
    length front ≡ length (take (n - 0) out) → take (n - 0) (front ++ post_of 0 (n - 0) out) ≡ stretch at n s
filled_front s at n out front h f e =
    let i : length (take (n - 0) out) ≡ n = omega (arith, length-take (n - 0) out) in
    take_at front (post_of 0 (n - 0) out) (n - 0) (omega arith) ∙ f ∙ ap (λ (k : ℕ). stretch at k s) i
