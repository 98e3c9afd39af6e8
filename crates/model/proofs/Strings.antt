-- Stretches of strings.
use Rattle.std.proofs.Common.{◌≡◌, ℕ, ◌+◌, ◌-◌, ◌≤◌, List, ◌++◌, length, take, drop, sym, ap, ◌∙◌, arith, length-drop, take_all, take-take}
use lib.Seq.{take-append-le, drop-append-le, take-append-add, drop-append-add}
use Rattle.std.proofs.lemmas.List.{drop-take}

module _ {A : Type 0} where
  -- a stretch inside a front
  pub inside : (m f n : ℕ) (s : List A) → f + n ≤ m → take n (drop f (take m s)) ≡ take n (drop f s)
  inside m f n s h =
      let e : m ≡ f + (m - f) = omega arith in
      let le : n ≤ m - f = omega arith in
      ap (λ (x : ℕ). take n (drop f (take x s))) e ∙ ap (take n) (drop-take f (m - f) s) ∙ take-take n (m - f) (drop f s) le

  pub stretch_left : (f n : ℕ) (x y : List A) → f + n ≤ length x → take n (drop f (x ++ y)) ≡ take n (drop f x)
  stretch_left f n x y h =
      let a : f ≤ length x = omega arith in
      let b : n ≤ length (drop f x) = simp length-drop (omega arith) in
      ap (take n) (drop-append-le f x y a) ∙ take-append-le n (drop f x) y b

  pub stretch_right : (f n : ℕ) (x y : List A) → length x ≤ f → take n (drop f (x ++ y)) ≡ take n (drop (f - length x) y)
  stretch_right f n x y h =
      let e : f ≡ length x + (f - length x) = omega arith in
      ap (λ (k : ℕ). take n (drop k (x ++ y))) e ∙ ap (take n) (drop-append-add x y (f - length x))

  pub stretch_both : (f n : ℕ) (x y : List A) → f ≤ length x → length x ≤ f + n →
      take n (drop f (x ++ y)) ≡ take (length x - f) (drop f x) ++ take (f + n - length x) y
  stretch_both f n x y h k =
      let l : length (drop f x) ≡ length x - f = length-drop f x in
      let e : n ≡ length (drop f x) + (f + n - length x) = omega arith in
      let a : length (drop f x) ≤ length x - f = omega arith in
      ap (take n) (drop-append-le f x y h)
      ∙ ap (λ (j : ℕ). take j (drop f x ++ y)) e
      ∙ take-append-add (drop f x) y (f + n - length x)
      ∙ ap (λ (z : List A). z ++ take (f + n - length x) y) (sym (take_all (length x - f) (drop f x) a))
