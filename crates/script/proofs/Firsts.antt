-- The answer of `position`, with the length where there is none, and tests in their two cases.
use Rattle.std.proofs.Common.{◌≡◌, ℕ, ◌≤◌, Bool, true, false, not, cond, ltb, List, length, Some, None, Option, unwrap_or, refl, ap, ◌∙◌, arith}
use Rattle.std.specs.List.{position_or_len}
use Rattle.std.proofs.lemmas.Bool.{cond_both, ltb-false}
use Rattle.std.proofs.lemmas.List.Sums.{prefix_len-le-length}

-- a goal on a test, in its two cases
pub bool_cases : (b : Bool) (P : Bool → Type 0) → (b ≡ true → P true) → (b ≡ false → P false) → P b
bool_cases true P t f = t refl
bool_cases false P t f = f refl

pub or_length : {X : Type 0} (test : X → Bool) (xs : List X) (r : Option ℕ) (n : ℕ) → n ≡ unwrap_or r (length xs) →
    r ≡ cond (ltb (position_or_len test xs) (length xs)) (Some (position_or_len test xs)) None → (n ≡ position_or_len test xs) × (n ≤ length xs)
or_length test xs r n e h =
    let k = position_or_len test xs in
    let le = prefix_len-le-length (λ x. not (test x)) xs in
    let same : n ≡ k =
    e ∙ ap (λ o. unwrap_or o (length xs)) h
    ∙ cond_both (ltb k (length xs)) (Some k) None (λ (o : Option ℕ). unwrap_or o (length xs) ≡ k) (λ _. refl) (λ f. let m = ltb-false k (length xs) f in omega arith) in
    (same, omega (arith, same, le))
