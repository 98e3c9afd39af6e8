-- The search for a pattern finds the least place.
use Rattle.std.proofs.Common.{◌≡◌, ℕ, zero, suc, ◌+◌, ◌-◌, ◌<◌, ◌≤◌, Bool, true, false, cond, eqb, List, [], ◌∷◌, length, take, drop, Some, None, Decides, Option, sym, refl, ap, ◌∙◌, subst, arith, drop-drop}
use lib.Seq.{take-nil, drop-nil}
use Rattle.std.proofs.lemmas.Bool.{both_ways, true≢false}
use Rattle.std.proofs.lemmas.Bool.Decides.{Decides-eqb, Decides-and}
use Rattle.model.specs.Plain.{begins_with, first_place}
use Rattle.model.specs.Found.{StandsAt, Found}

decides_begins : (pattern s : List ℕ) → Decides (begins_with pattern s) (take (length pattern) s ≡ pattern)
decides_begins [] s = (λ e. refl, λ e. refl)
decides_begins (x ∷ xs) [] = (λ e. absurd (true≢false (sym e)), λ e. cc)
decides_begins (x ∷ xs) (y ∷ ys) =
    let d = Decides-and (eqb x y) (begins_with xs ys) (Decides-eqb x y) (decides_begins xs ys) in
    (λ e. both (d.0 e), λ e. d.1 (heads e, tails e))
  where
    both : (x ≡ y) × (take (length xs) ys ≡ xs) → y ∷ take (length xs) ys ≡ x ∷ xs
    both p = let a = p.0 in let b = p.1 in cc

    heads : y ∷ take (length xs) ys ≡ x ∷ xs → x ≡ y
    heads e = cc

    tails : y ∷ take (length xs) ys ≡ x ∷ xs → take (length xs) ys ≡ xs
    tails e = cc

-- the same, with places counted from `at`
abbrev FoundOn : List ℕ → ℕ → List ℕ → Option ℕ → Type 0
FoundOn s at pattern None = (d : ℕ) → StandsAt pattern s d → ⊥
FoundOn s at pattern (Some k) = (d : ℕ) × (k ≡ at + d) × StandsAt pattern s d × ((j : ℕ) → j < d → StandsAt pattern s j → ⊥)

module _ (pattern : List ℕ) (some : length pattern ≡ 0 → ⊥) where
  nowhere : (d : ℕ) → StandsAt pattern [] d → ⊥
  nowhere d e =
      let z : take (length pattern) (drop d []) ≡ [] = ap (take (length pattern)) (drop-nil d) ∙ take-nil (length pattern) in
      some (sym (ap length e) ∙ ap length z)

  found_on : (at : ℕ) (s : List ℕ) → FoundOn s at pattern (first_place pattern at s)
  found_on at [] = nowhere
  found_on at (y ∷ ys) = go (begins_with pattern (y ∷ ys)) refl (first_place pattern (suc at) ys) (found_on (suc at) ys)
    where
      not_here : begins_with pattern (y ∷ ys) ≡ false → StandsAt pattern (y ∷ ys) 0 → ⊥
      not_here e h = both_ways (begins_with pattern (y ∷ ys)) e ((decides_begins pattern (y ∷ ys)).1 h)

      later : (o : Option ℕ) → begins_with pattern (y ∷ ys) ≡ false → FoundOn ys (suc at) pattern o → FoundOn (y ∷ ys) at pattern o
      later None e f = λ d h. ways d h
        where
          ways : (d : ℕ) → StandsAt pattern (y ∷ ys) d → ⊥
          ways zero h = not_here e h
          ways (suc d) h = f d h
      later (Some k) e f = (suc f.0, omega (arith, f.1), f.2, ways)
        where
          ways : (j : ℕ) → j < suc f.0 → StandsAt pattern (y ∷ ys) j → ⊥
          ways zero l h = not_here e h
          ways (suc j) l h = f.3 j (omega arith) h

      go : (b : Bool) → begins_with pattern (y ∷ ys) ≡ b → (o : Option ℕ) → FoundOn ys (suc at) pattern o →
          FoundOn (y ∷ ys) at pattern (cond b (Some at) o)
      go true e o f = (0, omega arith, (decides_begins pattern (y ∷ ys)).0 e, λ j l. absurd (omega arith))
      go false e o f = later o e f

  pub found_first : (s : List ℕ) (from : ℕ) → Found s from pattern (first_place pattern from (drop from s))
  found_first s from = go (first_place pattern from (drop from s)) (found_on from (drop from s))
    where
      over : (d : ℕ) → StandsAt pattern (drop from s) d → StandsAt pattern s (from + d)
      over d h = ap (take (length pattern)) (sym (drop-drop d from s)) ∙ h

      back : (k : ℕ) → from ≤ k → StandsAt pattern s k → StandsAt pattern (drop from s) (k - from)
      back k l h =
          let e : from + (k - from) ≡ k = omega arith in
          ap (take (length pattern)) (drop-drop (k - from) from s ∙ ap (λ (x : ℕ). drop x s) e) ∙ h

      go : (o : Option ℕ) → FoundOn (drop from s) from pattern o → Found s from pattern o
      go None f = λ k l h. f (k - from) (back k l h)
      go (Some k) f =
          let e = f.1 in (
            omega arith,
            subst (StandsAt pattern s) (sym e) (over f.0 f.2),
            λ j l m h. f.3 (j - from) (omega arith) (back j l h),
          )
