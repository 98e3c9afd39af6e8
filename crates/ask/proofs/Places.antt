-- Places where a pattern stands: inside a window of a string, and in the whole string.
use Rattle.std.proofs.Common.{◌≡◌, ℕ, ◌+◌, ◌-◌, ◌<◌, ◌≤◌, List, ◌++◌, length, take, drop, Some, None, Option, sym, refl, ap, ◌∙◌, subst, ⊎_elim, arith, length-drop, length-take}
use borrow.Rule.Slice.PartMut.{post_of}
use Rattle.std.proofs.lemmas.Bool.{cases_lt, cases_order}
use Rattle.memchr.specs.Find.{FindsNeedle}
use Rattle.memchr.proofs.lemmas.MatchLemmas.{OccursAt-part, OccursAt-from_part}
use Rattle.shelf.specs.Texts.{stretch}
use Rattle.shelf.proofs.Copies.{stretch_take}
use Rattle.model.specs.Plain.{first_place}
use Rattle.model.specs.Found.{StandsAt, Found}
use Rattle.model.proofs.Finds.{found_first}
use Rattle.ask.proofs.Stretches.{stretch_inner, filled_front}

module _ (pattern : List ℕ) (some : 0 < length pattern) where
  -- a pattern stands only where the string is long enough
  pub stands_inside : (s : List ℕ) (k : ℕ) → StandsAt pattern s k → k + length pattern ≤ length s
  stands_inside s k h = omega (arith, length-take (length pattern) (drop k s), length-drop k s, ap length h)

  -- in a window of `n` bytes from `at` on it stands where it does in the string
  in_window : (s : List ℕ) (at n k : ℕ) → k + length pattern ≤ n →
      take (length pattern) (drop k (stretch at n s)) ≡ take (length pattern) (drop (at + k) s)
  in_window s at n k h = stretch_take k (length pattern) n (drop at s) h ∙ stretch_inner at k (length pattern) s

-- the place of a needle in a string
pub found_needle : (pattern : List ℕ) → 0 < length pattern → (s : List ℕ) (o : Option ℕ) → FindsNeedle s pattern 0 o → Found s 0 pattern o
found_needle pattern some s None f = λ k l h.
    let fits = stands_inside pattern some s k h in f k l (omega arith) (OccursAt-from_part s pattern k fits h)
found_needle pattern some s (Some k) f = (
  f.0.low,
  OccursAt-part s pattern k f.1,
  λ j l m h. f.0.before j l m (OccursAt-from_part s pattern j (stands_inside pattern some s j h) h),
)

-- the pattern stands nowhere from `from` on before `at`
abbrev pub NoneBefore : (pattern s : List ℕ) (from at : ℕ) → Type 0
NoneBefore pattern s from at = (k : ℕ) → from ≤ k → k < at → StandsAt pattern s k → ⊥

module _ (pattern : List ℕ) (some : 0 < length pattern) (s : List ℕ) (from : ℕ) where
  module _ (at n : ℕ) (none : NoneBefore pattern s from at) where
    -- what stands in the window stands in the string
    widen : (k : ℕ) → k + length pattern ≤ n → StandsAt pattern (stretch at n s) k → StandsAt pattern s (at + k)
    widen k h e = sym (in_window pattern some s at n k h) ∙ e

    -- what stands in the string stands in the window, if it ends there
    narrow : (k : ℕ) → at ≤ k → k + length pattern ≤ at + n → StandsAt pattern s k → StandsAt pattern (stretch at n s) (k - at)
    narrow k l h e =
        let i : at + (k - at) ≡ k = omega arith in
        in_window pattern some s at n (k - at) (omega arith) ∙ ap (λ (j : ℕ). take (length pattern) (drop j s)) i ∙ e

    -- the first place in the window is the first of all
    pub found_there : from ≤ at → (k : ℕ) → Found (stretch at n s) 0 pattern (Some k) → Found s from pattern (Some (at + k))
    found_there l k f =
        let h : k + length pattern ≤ n = omega (arith, stands_inside pattern some (stretch at n s) k f.1, length-take n (drop at s)) in
        (omega arith, widen k h f.1, λ j i m e. ⊎_elim (λ (b : j < at). none j i b e) (λ (b : at ≤ j). f.2 (j - at) (omega arith) (omega arith) (narrow j b (omega arith) e)) (cases_lt j at))

    -- where the window has none, the search goes on at the first place that the window does not decide
    pub none_there : (next : ℕ) → next + length pattern ≤ at + n + 1 → Found (stretch at n s) 0 pattern None → NoneBefore pattern s from next
    none_there next h f j i m e =
        ⊎_elim (λ (b : j < at). none j i b e) (λ (b : at ≤ j). f (j - at) (omega arith) (narrow j b (omega arith) e)) (cases_lt j at)

  -- the rest of the string is too short
  pub found_nowhere : (at : ℕ) → NoneBefore pattern s from at → length s < at + length pattern → Found s from pattern None
  found_nowhere at none h k l e = none k l (omega (arith, stands_inside pattern some s k e)) e

-- what a search finds in the first `n` bytes of a buffer, which were filled from place `at` of a string
pub searched : (pattern : List ℕ) → 0 < length pattern → (s : List ℕ) (at n : ℕ) (out front : List ℕ) → n ≤ length out →
    front ≡ stretch at (length (take (n - 0) out)) s → length front ≡ length (take (n - 0) out) →
    (needle : List ℕ) → needle ≡ pattern → (o : Option ℕ) → FindsNeedle (take (n - 0) (front ++ post_of 0 (n - 0) out)) needle 0 o → Found (stretch at n s) 0 pattern o
searched pattern some s at n out front h f e needle i o found =
    found_needle pattern some (stretch at n s) o
    (subst (λ (w : List ℕ). FindsNeedle w pattern 0 o) (filled_front s at n out front h f e)
    (subst (λ (p : List ℕ). FindsNeedle (take (n - 0) (front ++ post_of 0 (n - 0) out)) p 0 o) i found))

-- there is one answer
found_once : (pattern s : List ℕ) (from : ℕ) (o p : Option ℕ) → Found s from pattern o → Found s from pattern p → o ≡ p
found_once pattern s from None None f g = refl
found_once pattern s from None (Some k) f g = absurd (f k g.0 g.1)
found_once pattern s from (Some k) None f g = absurd (g k f.0 f.1)
found_once pattern s from (Some k) (Some j) f g =
    ap Some (⊎_elim (λ e. e) (⊎_elim (λ (l : k < j). absurd (g.2 k f.0 l f.1)) (λ (l : j < k). absurd (f.2 j g.0 l g.1))) (cases_order k j))

-- so it is the machine's
pub found_first_place : (pattern s : List ℕ) (from : ℕ) (o : Option ℕ) → 0 < length pattern → Found s from pattern o → o ≡ first_place pattern from (drop from s)
found_first_place pattern s from o some f =
    found_once pattern s from o (first_place pattern from (drop from s)) f (found_first pattern (λ z. omega arith) s from)
