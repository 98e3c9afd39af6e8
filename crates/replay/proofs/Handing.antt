-- Runs one call longer, and runs in which all calls are handed the same texts.
use Rattle.std.proofs.Common.{◌≡◌, ℕ, List, [], ◌∷◌, ◌++◌, map, refl, ap, ◌∙◌}
use Rattle.model.specs.Calls.{Call}
use Rattle.model.specs.Answers.{Answer, Told}
use Rattle.model.specs.Runs.{State, step, run}
use Rattle.model.specs.Sheet.{Rule}
use Rattle.replay.specs.Handed.{Handed, run_handed}

module _ {V : Type 0} (rule : Rule V) where
  Run : Type 0
  Run = List (Answer (Told V)) × State V

  -- one call more, made on what the run left
  pub run_push : (s : State V) (calls : List Handed) (h : Handed) →
      ◌≡◌ {A = List (Answer (Told V)) × State V} (run_handed rule s (calls ++ h ∷ [])) (
        (run_handed rule s calls).0 ++ (step h.texts rule (run_handed rule s calls).1 h.call).0 ∷ [],
        (step h.texts rule (run_handed rule s calls).1 h.call).1,
      )
  run_push s [] h = refl
  run_push s (x ∷ calls) h =
      ap (λ (r : List (Answer (Told V)) × State V). ((step x.texts rule s x.call).0 ∷ r.0, r.1))
      (run_push (step x.texts rule s x.call).1 calls h)

  -- where a call's answer and what it leaves are known
  pub run_more : (s s₁ s₂ : State V) (calls : List Handed) (answers : List (Answer (Told V))) (h : Handed) (a : Answer (Told V)) →
      run_handed rule s calls ≡ (answers, s₁) → step h.texts rule s₁ h.call ≡ (a, s₂) →
      run_handed rule s (calls ++ h ∷ []) ≡ (answers ++ a ∷ [], s₂)
  run_more s s₁ s₂ calls answers h a before one =
      run_push s calls h
      ∙ ap (λ (r : List (Answer (Told V)) × State V). (r.0 ++ (step h.texts rule r.1 h.call).0 ∷ [], (step h.texts rule r.1 h.call).1)) before
      ∙ ap (λ (r : Answer (Told V) × State V). (answers ++ r.0 ∷ [], r.1)) one

  -- the same texts at every call
  pub same_texts : (texts : List (List ℕ)) (s : State V) (calls : List Call) →
      run_handed rule s (map (λ c. record { texts = texts; call = c }) calls) ≡ run texts rule s calls
  same_texts texts s [] = refl
  same_texts texts s (c ∷ calls) =
      ap (λ (r : List (Answer (Told V)) × State V). ((step texts rule s c).0 ∷ r.0, r.1)) (same_texts texts (step texts rule s c).1 calls)
