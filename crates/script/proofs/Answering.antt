-- The fault that a judgement answers is the smallest, and the leftmost of its row.
use Rattle.std.proofs.Common.{◌≡◌, ℕ, ◌<◌, ◌≤◌, ltb, List, [], ◌∷◌, ◌++◌, Some, None, Ok, Err, Option, Result, sym, refl, ap, subst, inl, inr, arith}
use Rattle.std.specs.List.{AllByRecursion}
use Rattle.std.proofs.ByRecursion.{All-append, All-weaker}
use Rattle.std.proofs.lemmas.Bool.{cond_both, ltb-true, ltb-false}
use Rattle.script.specs.declared.args.Arg.{Arg}
use Rattle.script.specs.declared.command.Command.{Command}
use Rattle.script.specs.declared.fault.Fault.{Fault}
use Rattle.script.specs.declared.forms.Kind.{Kind}
use Rattle.script.specs.declared.forms.Verb.{Verb}
use Rattle.script.specs.declared.lines.Line.{Line}
use Rattle.script.specs.declared.stretch.Stretch.{Stretch}
use Rattle.script.specs.Arguments.{argument, both, one, arguments}
use Rattle.script.specs.Bounds.{show_most}
use Rattle.script.specs.Forms.{form, verbs, verb_of}
use Rattle.script.specs.Judgement.{command, shown, ready, with_arguments, with_verb, with_tokens, judged_text}
use Rattle.script.specs.Names.{Named}
use Rattle.script.specs.Smallest.{fault_of, misfits, faults_with_verb, faults_of_tokens, text_faults, Answers, Smallest}
use Rattle.script.specs.Stretches.{bytes_of}
use Rattle.script.specs.Tokens.{tokens_from}

-- what the arguments of a line are by its faults
abbrev Least : List Fault → Result (List Arg) Fault → Type 0
Least faults (Ok args) = faults ≡ []
Least faults (Err fault) = Answers fault faults

-- no fault has a smaller row than n
abbrev From : ℕ → List Fault → Type 0
From n faults = AllByRecursion (λ (other : Fault). n ≤ other.row.number) faults

from_answers : (fault : Fault) (faults : List Fault) → Answers fault faults → From fault.row.number faults
from_answers fault faults a =
    let n = fault.row.number in
    let before = All-weaker (λ (other : Fault). n < other.row.number) (λ (other : Fault). n ≤ other.row.number) (λ other h. omega arith) a.left a.larger in
    subst (From n) (sym a.parts) (All-append (λ (other : Fault). n ≤ other.row.number) a.left (fault ∷ a.right) before (omega arith, a.smallest))

-- the first fault answers where the others have no smaller row
first : (fault : Fault) (faults : List Fault) → From fault.row.number faults → Answers fault (fault ∷ faults)
first fault faults h = record { left = []; right = faults; parts = refl; larger = tt; smallest = h }

-- and a later one where its row is smaller
later : (fault other : Fault) (faults : List Fault) → fault.row.number < other.row.number → Answers fault faults → Answers fault (other ∷ faults)
later fault other faults h a = record {
  left = other ∷ a.left;
  right = a.right;
  parts = ap (λ l. other ∷ l) a.parts;
  larger = (h, a.larger);
  smallest = a.smallest;
}

least_both : (x : Result Arg Fault) (y : Result (List Arg) Fault) (faults : List Fault) → Least faults y → Least (fault_of x ++ faults) (both (one x) y)
least_both (Ok arg) (Ok args) faults h = h
least_both (Ok arg) (Err fault) faults h = h
least_both (Err fault) (Ok args) faults h = first fault faults (subst (From fault.row.number) (sym h) tt)
least_both (Err left) (Err right) faults h =
    cond_both (ltb right.row.number left.row.number) right left (λ (fault : Fault). Answers fault (left ∷ faults))
    (λ e. later right left faults (ltb-true _ _ e) h)
    (λ e. first left faults
    (All-weaker (λ (other : Fault). right.row.number ≤ other.row.number) (λ (other : Fault). left.row.number ≤ other.row.number)
    (λ other k. omega (arith, ltb-false right.row.number left.row.number e)) faults (from_answers right faults h)))

module _ (names : List Named) (text : List ℕ) (line : Line) where
  too_many : (tokens : List Stretch) → From 18 (misfits names text line [] tokens)
  too_many [] = tt
  too_many (token ∷ tokens) = (omega arith, too_many tokens)

  least_arguments : (kinds : List Kind) (tokens : List Stretch) → Least (misfits names text line kinds tokens) (arguments names text line kinds tokens)
  least_arguments [] [] = refl
  least_arguments [] (token ∷ tokens) = first _ (misfits names text line [] tokens) (too_many tokens)
  least_arguments (kind ∷ kinds) [] = first _ [] tt
  least_arguments (kind ∷ kinds) (token ∷ tokens) =
      least_both (argument names text line kind token) (arguments names text line kinds tokens) (misfits names text line kinds tokens) (least_arguments kinds tokens)

  smallest_ready : (token : Stretch) (c : Command) (faults : List Fault) → faults ≡ [] → Smallest faults (ready line token c)
  smallest_ready token c faults e = cond_both (ltb show_most (shown c)) _ _ (Smallest faults) (λ _. inr (e, refl)) (λ _. e)

  smallest_arguments : (token : Stretch) (verb : Verb) (r : Result (List Arg) Fault) (faults : List Fault) → Least faults r → Smallest faults (with_arguments line token verb r)
  smallest_arguments token verb (Ok args) faults h = smallest_ready token (command verb args) faults h
  smallest_arguments token verb (Err fault) faults h = inl h

  smallest_verb : (token : Stretch) (tokens : List Stretch) (verb : Option Verb) → Smallest (faults_with_verb names text line token tokens verb) (with_verb names text line token tokens verb)
  smallest_verb token tokens None = inl (first _ [] tt)
  smallest_verb token tokens (Some verb) = smallest_arguments token verb _ _ (least_arguments (form verb).kinds tokens)

  smallest_tokens : (tokens : List Stretch) → Smallest (faults_of_tokens names text line tokens) (with_tokens names text line tokens)
  smallest_tokens [] = refl
  smallest_tokens (token ∷ tokens) = smallest_verb token tokens (verb_of verbs (bytes_of token text))

  pub smallest_answers : Smallest (text_faults names text line) (judged_text names text line)
  smallest_answers = smallest_tokens (tokens_from line.start text)
