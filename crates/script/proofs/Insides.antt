-- Every token of a line lies in it.
use Rattle.std.proofs.Common.{◌≡◌, ℕ, ◌+◌, ◌<◌, ◌≤◌, eqb, List, [], ◌∷◌, length, drop, sym, subst, inl, inr, arith, length-drop}
use Rattle.std.specs.List.{AllByRecursion}
use Rattle.std.proofs.ByRecursion.{All-weaker}
use Rattle.std.proofs.lemmas.List.{at_drop_all}
use Rattle.std.proofs.lemmas.Bool.{cond_both, cases_lt}
use Rattle.script.specs.declared.stretch.Stretch.{Stretch}
use Rattle.script.specs.Stretches.{Inside}
use Rattle.script.specs.Tokens.{State, between, within, scan, ends, turned, space, quote, tokens_from}

-- a token that has begun has a byte
abbrev Begun : State → ℕ → Type 0
Begun between place = Unit {0}
Begun (within start quoted) place = start < place

abbrev Before : ℕ → Stretch → Type 0
Before end token = (token.start < token.end) × (token.end ≤ end)

scan_inside : (end : ℕ) (state : State) (place : ℕ) (bytes : List ℕ) → place + length bytes ≡ end → Begun state place → AllByRecursion (Before end) (scan state place bytes)
scan_inside end between place [] e b = tt
scan_inside end between place (byte ∷ bytes) e b =
    cond_both (eqb byte space) _ _ (AllByRecursion (Before end))
    (λ _. scan_inside end between (place + 1) bytes (omega arith) tt)
    (λ _. scan_inside end (within place (eqb byte quote)) (place + 1) bytes (omega arith) (omega arith))
scan_inside end (within start quoted) place [] e b = ((b, omega arith), tt)
scan_inside end (within start quoted) place (byte ∷ bytes) e b =
    cond_both (ends quoted byte) _ _ (AllByRecursion (Before end))
    (λ _. ((b, omega arith), scan_inside end between (place + 1) bytes (omega arith) tt))
    (λ _. scan_inside end (within start (turned quoted byte)) (place + 1) bytes (omega arith) (omega arith))

pub tokens_inside : (text : List ℕ) (place : ℕ) → AllByRecursion (λ (token : Stretch). Inside token text) (tokens_from place text)
tokens_inside text place =
    elim (cases_lt (length text) place) [
      | inl h ↦ subst (AllByRecursion (λ (token : Stretch). Inside token text)) (sym (at_drop_all (scan between place) text place (omega arith))) tt
      | inr h ↦
          All-weaker (Before (length text)) (λ (token : Stretch). Inside token text) (λ token b. record { some = b.0; within = b.1 }) (tokens_from place text)
          (scan_inside (length text) between place (drop place text) (simp length-drop (omega arith)) tt)
    ]
