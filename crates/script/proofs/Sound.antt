-- A judged line's command holds what its form wants.
use Rattle.std.proofs.Common.{◌≡◌, ℕ, zero, suc, ◌<◌, false, ltb, List, [], ◌∷◌, length, get_or, take, Some, None, Ok, Err, Option, Result, refl, arith}
use Rattle.std.specs.List.{AllByRecursion}
use Rattle.std.proofs.lemmas.Bool.{cond_both, ltb-false}
use Rattle.script.specs.declared.args.Arg.{Arg}
use Rattle.script.specs.declared.fault.Fault.{Fault}
use Rattle.script.specs.declared.forms.Kind.{Kind}
use Rattle.script.specs.declared.forms.Kind.TheVariants as kind
use Rattle.script.specs.declared.forms.Verb.{Verb}
use Rattle.script.specs.declared.forms.Verb.TheVariants.{Open, Keep, Shape, Text, Say, Put, Cut, Crop, Toss, Show, Lines, Pairs, Find}
use Rattle.script.specs.declared.lines.Line.{Line}
use Rattle.script.specs.declared.stretch.Stretch.{Stretch}
use Rattle.script.specs.Args.{nothing}
use Rattle.script.specs.Arguments.{argument, both, one, arguments}
use Rattle.script.specs.Commands.{Holds, Holding}
use Rattle.script.specs.Bounds.{show_most}
use Rattle.script.specs.Forms.{form, verbs, verb_of}
use Rattle.script.specs.Judgement.{command, shown, ready, with_arguments, with_verb, with_tokens, judged}
use Rattle.script.specs.Names.{Named}
use Rattle.script.specs.Stretches.{bytes_of, Inside}
use Rattle.script.specs.Tokens.{tokens_from}
use Rattle.script.proofs.Holding.{Right, right}
use Rattle.script.proofs.Insides.{tokens_inside}

module _ (names : List Named) (script : List ℕ) where
  -- arguments by their kinds
  abbrev Fit : List Kind → List Arg → Type 0
  Fit [] [] = Unit {0}
  Fit [] (arg ∷ args) = ⊥
  Fit (k ∷ kinds) [] = ⊥
  Fit (k ∷ kinds) (arg ∷ args) = Right names script k arg × Fit kinds args

  fit_at : (kinds : List Kind) (args : List Arg) (j : ℕ) → Fit kinds args → j < length kinds → Right names script (get_or kinds j kind.Known) (get_or args j nothing)
  fit_at [] args j f h = absurd (omega arith)
  fit_at (k ∷ kinds) [] j f h = absurd f
  fit_at (k ∷ kinds) (arg ∷ args) zero f h = f.0
  fit_at (k ∷ kinds) (arg ∷ args) (suc j) f h = fit_at kinds args j f.1 (omega arith)

  -- what arguments make is right, or a fault
  abbrev Fits : List Kind → Result (List Arg) Fault → Type 0
  Fits kinds (Ok args) = Fit kinds args
  Fits kinds (Err fault) = Unit {0}

  fits_both : (k : Kind) (kinds : List Kind) (x : Result Arg Fault) (y : Result (List Arg) Fault) → ((arg : Arg) → x ≡ Ok arg → Right names script k arg) → Fits kinds y → Fits (k ∷ kinds) (both (one x) y)
  fits_both k kinds (Ok arg) (Ok args) r f = (r arg refl, f)
  fits_both k kinds (Ok arg) (Err fault) r f = tt
  fits_both k kinds (Err fault) (Ok args) r f = tt
  fits_both k kinds (Err left) (Err right) r f = tt

  module _ (line : Line) where
    abbrev text : List ℕ
    text = take line.end script

    fits_arguments : (kinds : List Kind) (tokens : List Stretch) → AllByRecursion (λ (token : Stretch). Inside token text) tokens → Fits kinds (arguments names text line kinds tokens)
    fits_arguments [] [] i = tt
    fits_arguments [] (token ∷ tokens) i = tt
    fits_arguments (k ∷ kinds) [] i = tt
    fits_arguments (k ∷ kinds) (token ∷ tokens) i =
        fits_both k kinds (argument names text line k token) (arguments names text line kinds tokens)
        (λ arg e. right names script line.end line token i.0 k arg e) (fits_arguments kinds tokens i.1)

  part : (verb : Verb) (args : List Arg) → Fit (form verb).kinds args → (j : ℕ) → j < length (form verb).kinds → Right names script (get_or (form verb).kinds j kind.Known) (get_or args j nothing)
  part verb args f j h = fit_at (form verb).kinds args j f h

  -- a command that does not show too much holds what its form wants
  holds : (verb : Verb) (args : List Arg) → Fit (form verb).kinds args → ltb show_most (shown (command verb args)) ≡ false → Holds names script (command verb args)
  holds Open args f e = part Open args f 0 (omega arith)
  holds Keep args f e = part Keep args f 0 (omega arith)
  holds Shape args f e = part Shape args f 0 (omega arith)
  holds Text args f e = (part Text args f 0 (omega arith), part Text args f 1 (omega arith), part Text args f 2 (omega arith), part Text args f 3 (omega arith))
  holds Say args f e = (part Say args f 0 (omega arith), part Say args f 1 (omega arith))
  holds Put args f e = (part Put args f 0 (omega arith), part Put args f 1 (omega arith))
  holds Cut args f e = (part Cut args f 0 (omega arith), part Cut args f 1 (omega arith))
  holds Crop args f e = (part Crop args f 0 (omega arith), part Crop args f 1 (omega arith))
  holds Toss args f e = tt
  holds Show args f e = (part Show args f 0 (omega arith), part Show args f 1 (omega arith), ltb-false show_most (shown (command Show args)) e)
  holds Lines args f e = (part Lines args f 0 (omega arith), part Lines args f 1 (omega arith), part Lines args f 2 (omega arith))
  holds Pairs args f e = (part Pairs args f 0 (omega arith), part Pairs args f 1 (omega arith), part Pairs args f 2 (omega arith))
  holds Find args f e = (part Find args f 0 (omega arith), part Find args f 1 (omega arith), part Find args f 2 (omega arith))

  module _ (line : Line) where
    holding_ready : (token : Stretch) (verb : Verb) (args : List Arg) → Fit (form verb).kinds args → Holding names script (ready line token (command verb args))
    holding_ready token verb args f =
        cond_both (ltb show_most (shown (command verb args))) _ _ (Holding names script) (λ _. tt) (λ e. holds verb args f e)

    holding_arguments : (token : Stretch) (verb : Verb) (r : Result (List Arg) Fault) → Fits (form verb).kinds r → Holding names script (with_arguments line token verb r)
    holding_arguments token verb (Ok args) f = holding_ready token verb args f
    holding_arguments token verb (Err fault) f = tt

    holding_verb : (token : Stretch) (tokens : List Stretch) (verb : Option Verb) → AllByRecursion (λ (t : Stretch). Inside t (text line)) tokens → Holding names script (with_verb names (text line) line token tokens verb)
    holding_verb token tokens None i = tt
    holding_verb token tokens (Some verb) i = holding_arguments token verb _ (fits_arguments line (form verb).kinds tokens i)

    holding_tokens : (tokens : List Stretch) → AllByRecursion (λ (t : Stretch). Inside t (text line)) tokens → Holding names script (with_tokens names (text line) line tokens)
    holding_tokens [] i = tt
    holding_tokens (token ∷ tokens) i = holding_verb token tokens (verb_of verbs (bytes_of token (text line))) i.1

    pub command_holds : Holding names script (judged names script line)
    command_holds = holding_tokens (tokens_from line.start (text line)) (tokens_inside (text line) line.start)
