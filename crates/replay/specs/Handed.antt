-- Runs in which each call is handed texts of its own.
use Rattle.std.specs.Prelude.{ℕ, List, [], ◌∷◌}
use Rattle.model.specs.Calls.{Call}
use Rattle.model.specs.Answers.{Answer, Told}
use Rattle.model.specs.Runs.{State, step}
use Rattle.model.specs.Sheet.{Rule}

-- a call, and the texts on the shelf that it is handed
pub record Handed : Type 0 where
  pub texts : List (List ℕ)
  pub call : Call

-- the answers, and what is left at the end
abbrev pub run_handed : {V : Type 0} → Rule V → State V → List Handed → List (Answer (Told V)) × State V
run_handed rule s [] = ([], s)
run_handed rule s (h ∷ calls) =
    let now = step h.texts rule s h.call in let later = run_handed rule now.1 calls in (now.0 ∷ later.0, later.1)
