-- What deletions leave has the same value under the rule Brackets.
use Rattle.std.proofs.Common.{◌≡◌, ℕ, zero, suc, ◌+◌, List, [], ◌∷◌, ◌++◌, replicate, fold, sym, refl, ap, ◌∙◌, arith}
use Rattle.std.proofs.lemmas.List.Sums.{fold-append}
use Rattle.std.proofs.lemmas.Bool.{cond-false, ne_eqb}
use Rattle.rule.specs.declared.brackets.Unmatched.{Unmatched}
use Rattle.rule.specs.Brackets.{none, opened, next, unmatched, Cancelling}
use Rattle.rule.specs.Matching.{same, closed_is}

-- bytes that change no value can be deleted
deleted : (x y part : List ℕ) → ((u : Unmatched) → fold next u part ≡ u) → unmatched (x ++ (part ++ y)) ≡ unmatched (x ++ y)
deleted x y part keeps =
    fold-append next none x (part ++ y)
    ∙ fold-append next (unmatched x) part y
    ∙ ap (λ u. fold next u y) (keeps (unmatched x))
    ∙ sym (fold-append next none x y)

-- a byte that counts one up, n times
repeated : (count : ℕ → Unmatched) (b : ℕ) →
    ((k : ℕ) → next (count k) b ≡ count (k + 1)) →
    (n k : ℕ) →
    fold next (count k) (replicate n b) ≡ count (k + n)
repeated count b step zero k = ap count (omega arith)
repeated count b step (suc n) k =
    ap (λ u. fold next u (replicate n b)) (step k) ∙ repeated count b step n (k + 1) ∙ ap count (omega arith)

pub cancelling : Cancelling
cancelling =
    record {
      pair = λ x y. deleted x y (40 ∷ (41 ∷ [])) (λ u. closed_is (opened u) ∙ same _ u (omega arith) (omega arith));
      other = λ x b y o c. deleted x y (b ∷ []) (λ u. cond-false _ _ _ (ne_eqb b 40 o) ∙ cond-false _ _ _ (ne_eqb b 41 c));
      rest =
          λ u.
          fold-append next none (replicate u.closings 41) (replicate u.openings 40)
          ∙ ap
          (λ v. fold next v (replicate u.openings 40))
          (repeated (λ k. record { closings = k; openings = 0 }) 41 (λ k. refl) u.closings 0)
          ∙ repeated (λ k. record { closings = 0 + u.closings; openings = k }) 40 (λ k. refl) u.openings 0
          ∙ same _ u (omega arith) (omega arith);
    }
