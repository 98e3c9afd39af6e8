-- An argument is of the kind that the form wants.
use Rattle.std.proofs.Common.{◌≡◌, ℕ, Bool, true, false, cond, ltb, List, [], ◌∷◌, map, is_some, Some, None, Ok, Err, Option, Result, sym, refl, ap, ◌∙◌, arith}
use Rattle.std.specs.Option.{ok_or, option_map}
use Rattle.shelf.specs.Texts.{limit}
use Rattle.script.specs.declared.args.Arg.{Arg}
use Rattle.script.specs.declared.args.Arg.TheVariants.{Version, Name, Number}
use Rattle.script.specs.declared.fault.Fault.{Fault}
use Rattle.script.specs.declared.fault.ScriptFault.{ScriptFault}
use Rattle.script.specs.declared.fault.ScriptFault.TheVariants.{NoForm, AboveLimit, UnknownName, TakenName}
use Rattle.script.specs.declared.forms.Kind.{Kind}
use Rattle.script.specs.declared.forms.Kind.TheVariants as kind
use Rattle.script.specs.declared.lines.Line.{Line}
use Rattle.script.specs.declared.stretch.Stretch.{Stretch}
use Rattle.script.specs.Args.{kind_of, value_of}
use Rattle.script.specs.Arguments.{shape, shaped, meant, placed, argument, both, one, arguments}
use Rattle.script.specs.Names.{Named, meaning}
use Rattle.script.specs.Shapes.{value}
use Rattle.script.specs.Stretches.{bytes_of}

pub never : {X Y F : Type 0} {x : X} {f : F} → ◌≡◌ {A = Result X F} (Err f) (Ok x) → Y
never e = absurd (let z : ◌≡◌ {A = ℕ} 0 1 = cc in omega arith)

pub ok_of_cond : {X F : Type 0} (b : Bool) (r : Result X F) (f : F) (x : X) → cond b r (Err f) ≡ Ok x → (b ≡ true) × (r ≡ Ok x)
ok_of_cond true r f x e = (refl, e)
ok_of_cond false r f x e = never e

pub ok_unless : {X F : Type 0} (b : Bool) (f : F) (y x : X) → cond b (Err f) (Ok y) ≡ Ok x → (b ≡ false) × (y ≡ x)
ok_unless true f y x e = never e
ok_unless false f y x e = (refl, cc)

pub version_of_ok : (o : Option ℕ) (arg : Arg) → ◌≡◌ {A = Result Arg ScriptFault} (ok_or (option_map Version o) UnknownName) (Ok arg) → (o ≡ Some (value_of arg)) × (kind_of arg ≡ kind.Known)
version_of_ok None arg e = never e
version_of_ok (Some v) arg e =
    let same : Version v ≡ arg = cc in
    (ap (λ (a : Arg). Some (value_of a)) same, sym (ap kind_of same))

pub placed_ok : (line : Line) (token : Stretch) (r : Result Arg ScriptFault) (arg : Arg) → placed line token r ≡ Ok arg → r ≡ Ok arg
placed_ok line token (Ok other) arg e = cc
placed_ok line token (Err cause) arg e = never e

pub ok_same : {X F : Type 0} (y x : X) → ◌≡◌ {A = Result X F} (Ok y) (Ok x) → y ≡ x
ok_same y x e = cc

module _ (names : List Named) (text : List ℕ) (line : Line) where
  kind_shaped : (k : Kind) (token : Stretch) (bytes : List ℕ) (arg : Arg) → shaped names k token bytes ≡ Ok arg → kind_of arg ≡ k
  kind_shaped kind.Known token bytes arg e = (version_of_ok (meaning names bytes) arg e).1
  kind_shaped kind.Fresh token bytes arg e = sym (ap kind_of (ok_unless (is_some (meaning names bytes)) TakenName (Name token) arg e).1)
  kind_shaped kind.Number token bytes arg e = sym (ap kind_of (ok_unless (ltb limit (value 0 bytes)) AboveLimit (Number (value 0 bytes)) arg e).1)
  kind_shaped kind.Quoted token bytes arg e = sym (ap kind_of (ok_same {F = ScriptFault} _ arg e))

  kind_is : (k : Kind) (token : Stretch) (arg : Arg) → argument names text line k token ≡ Ok arg → kind_of arg ≡ k
  kind_is k token arg e =
      let bytes = bytes_of token text in
      kind_shaped k token bytes arg (ok_of_cond (shape k bytes) (shaped names k token bytes) NoForm arg (placed_ok line token (meant names k token bytes) arg e)).1

  kinds_both : (k : Kind) (kinds : List Kind) (x : Result Arg Fault) (y : Result (List Arg) Fault) (args : List Arg) →
      ((arg : Arg) → x ≡ Ok arg → kind_of arg ≡ k) → ((more : List Arg) → y ≡ Ok more → map kind_of more ≡ kinds) →
      both (one x) y ≡ Ok args → map kind_of args ≡ k ∷ kinds
  kinds_both k kinds (Ok arg) (Ok more) args f g e =
      sym (ap (map kind_of) (ok_same {F = Fault} (arg ∷ more) args e)) ∙ ap (λ j. j ∷ map kind_of more) (f arg refl) ∙ ap (λ js. k ∷ js) (g more refl)
  kinds_both k kinds (Ok arg) (Err fault) args f g e = never e
  kinds_both k kinds (Err fault) (Ok more) args f g e = never e
  kinds_both k kinds (Err left) (Err right) args f g e = never e

  pub kinds_are : (kinds : List Kind) (tokens : List Stretch) (args : List Arg) → arguments names text line kinds tokens ≡ Ok args → map kind_of args ≡ kinds
  kinds_are [] [] args e = sym (ap (map kind_of) (ok_same {F = Fault} [] args e))
  kinds_are [] (token ∷ tokens) args e = never e
  kinds_are (k ∷ kinds) [] args e = never e
  kinds_are (k ∷ kinds) (token ∷ tokens) args e =
      kinds_both k kinds (argument names text line k token) (arguments names text line kinds tokens) args (λ arg h. kind_is k token arg h) (λ more h. kinds_are kinds tokens more h) e
