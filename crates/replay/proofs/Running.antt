-- A list of calls, one call longer.
use Rattle.std.proofs.Common.{◌≡◌, ℕ, ◌+◌, ◌<◌, List, [], ◌∷◌, ◌++◌, map, length, get_or, take, sym, ap, ◌∙◌}
use Rattle.std.proofs.lemmas.List.{take_more, map_push}
use Rattle.model.specs.Answers.{Answer, Told}
use Rattle.model.specs.Book.{Book}
use Rattle.model.specs.Runs.{State, step}
use Rattle.model.specs.Sheet.{Rule, Sheet}
use Rattle.replay.specs.declared.call.Answer as code
use Rattle.replay.specs.declared.call.Call.{Call}
use Rattle.replay.specs.declared.call.Which.{Which}
use Rattle.replay.specs.declared.call.Which.TheVariants.{First, Second}
use Rattle.replay.specs.Calls.{first_answer, second_answer}
use Rattle.replay.specs.Handed.{Handed, run_handed}
use Rattle.replay.specs.Replays.{state, handed, Performs, Runs}
use Rattle.replay.proofs.Handing.{run_more}

-- one call more, told for one of the two sheets
told_more : {V A : Type 0} (rule : Rule V) (tell : A → Answer (Told V)) (give : Call → Handed) (s s₁ s₂ : State V) (calls : List Call) (call : Call) (answers : List A) (a : A) →
    run_handed rule s (map give calls) ≡ (map tell answers, s₁) → step (give call).texts rule s₁ (give call).call ≡ (tell a, s₂) →
    run_handed rule s (map give (calls ++ call ∷ [])) ≡ (map tell (answers ++ a ∷ []), s₂)
told_more {V} rule tell give s s₁ s₂ calls call answers a before one =
    ap (run_handed rule s) (map_push give calls call)
    ∙ run_more rule s s₁ s₂ (map give calls) (map tell answers) (give call) (tell a) before one
    ∙ ap (λ (x : List (Answer (Told V))). (x, s₂)) (sym (map_push tell answers a))

-- a run of a list of calls, one call more
module _ {P Q : Type 0} (patterns : List ℕ) (texts : Which → List (List ℕ)) (p : Rule P) (q : Rule Q) where
  pub runs_more : (b b₁ b₂ : Book) (s s₁ s₂ : Sheet P) (t t₁ t₂ : Sheet Q) (calls : List Call) (i : ℕ) (d : Call) (answers now : List (code.Answer P Q)) (a : code.Answer P Q) →
      i < length calls → Runs patterns texts p q b b₁ s s₁ t t₁ (take i calls) answers →
      Performs patterns texts p q b₁ b₂ s₁ s₂ t₁ t₂ (get_or calls i d) a → now ≡ answers ++ a ∷ [] →
      Runs patterns texts p q b b₂ s s₂ t t₂ (take (i + 1) calls) now
  runs_more b b₁ b₂ s s₁ s₂ t t₁ t₂ calls i d answers now a h before one e = rw (e, take_more calls i d h) (record {
    first = told_more p first_answer (handed patterns texts First) (state b s) (state b₁ s₁) (state b₂ s₂) (take i calls) (get_or calls i d) answers a before.first one.first;
    second = told_more q second_answer (handed patterns texts Second) (state b t) (state b₁ t₁) (state b₂ t₂) (take i calls) (get_or calls i d) answers a before.second one.second;
  })
