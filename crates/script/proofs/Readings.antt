-- The arguments of a line, one token on.
use Rattle.std.proofs.Common.{◌≡◌, ℕ, ◌+◌, ◌<◌, cond, ltb, List, [], ◌∷◌, length, get_or, drop, Ok, Err, Result, sym, refl, ap, ◌∙◌, append_assoc, arith}
use Rattle.std.proofs.lemmas.List.{at_drop_more}
use Rattle.std.proofs.lemmas.Bool.Decides.{nat_tests}
use Rattle.script.specs.declared.args.Arg.{Arg}
use Rattle.script.specs.declared.fault.Fault.{Fault}
use Rattle.script.specs.declared.fault.ScriptFault.TheVariants.{NoForm}
use Rattle.script.specs.declared.forms.Kind.{Kind}
use Rattle.script.specs.declared.lines.Line.{Line}
use Rattle.script.specs.declared.stretch.Stretch.{Stretch}
use Rattle.script.specs.Arguments.{argument, both, one, arguments}
use Rattle.script.specs.Faults.{fault_at}
use Rattle.script.specs.Names.{Named}

abbrev sooner : Fault → Fault → Fault
sooner left right = cond (ltb right.row.number left.row.number) right left

sooner_assoc : (f g h : Fault) → sooner (sooner f g) h ≡ sooner f (sooner g h)
sooner_assoc f g h = grind (arith, nat_tests)

both_assoc : (x y z : Result (List Arg) Fault) → both (both x y) z ≡ both x (both y z)
both_assoc (Ok xs) (Ok ys) (Ok zs) = ap Ok (append_assoc xs ys zs)
both_assoc (Ok xs) (Ok ys) (Err h) = refl
both_assoc (Ok xs) (Err g) (Ok zs) = refl
both_assoc (Ok xs) (Err g) (Err h) = refl
both_assoc (Err f) (Ok ys) (Ok zs) = refl
both_assoc (Err f) (Ok ys) (Err h) = refl
both_assoc (Err f) (Err g) (Ok zs) = refl
both_assoc (Err f) (Err g) (Err h) = ap Err (sooner_assoc f g h)

-- `sofar` is what the tokens for the first i kinds gave, `tokens` are those to come, and `all` is what the whole line gives
module _ (names : List Named) (text : List ℕ) (line : Line) (kinds : List Kind) (i : ℕ) (tokens : List Stretch) (sofar all : Result (List Arg) Fault) (inv : both sofar (arguments names text line (drop i kinds) tokens) ≡ all) where
  pub one_more : (d : Kind) (token : Stretch) (rest : List Stretch) (next : Result (List Arg) Fault) → i < length kinds → tokens ≡ token ∷ rest → next ≡ both sofar (one (argument names text line (get_or kinds i d) token)) → both next (arguments names text line (drop (i + 1) kinds) rest) ≡ all
  one_more d token rest next h e made =
      ap (λ x. both x (arguments names text line (drop (i + 1) kinds) rest)) made
      ∙ both_assoc sofar (one (argument names text line (get_or kinds i d) token)) (arguments names text line (drop (i + 1) kinds) rest)
      ∙ ap (both sofar) (sym (at_drop_more (λ ks. arguments names text line ks tokens) kinds i d h ∙ ap (arguments names text line (get_or kinds i d ∷ drop (i + 1) kinds)) e))
      ∙ inv

  pub too_few : (d : Kind) (answer : Result (List Arg) Fault) → i < length kinds → tokens ≡ [] → answer ≡ both sofar (Err (fault_at line NoForm (length text))) → answer ≡ all
  too_few d answer h e made =
      made
      ∙ ap (both sofar) (sym (at_drop_more (λ ks. arguments names text line ks tokens) kinds i d h ∙ ap (arguments names text line (get_or kinds i d ∷ drop (i + 1) kinds)) e))
      ∙ inv
