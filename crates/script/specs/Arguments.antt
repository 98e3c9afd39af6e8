-- What the tokens behind a line's first word stand for, or the fault that answers.
use Rattle.std.specs.Prelude.{ℕ, ◌+◌, ◌-◌, Bool, cond, List, [], ◌∷◌, ◌++◌, length, is_some, Ok, Err, Result, nat_lt}
use Rattle.std.specs.Option.{ok_or, option_map}
use Rattle.shelf.specs.Texts.{limit}
use Rattle.script.specs.declared.args.Arg.{Arg}
use Rattle.script.specs.declared.args.Arg.TheVariants as arg
use Rattle.script.specs.declared.fault.Fault.{Fault}
use Rattle.script.specs.declared.fault.ScriptFault.{ScriptFault}
use Rattle.script.specs.declared.fault.ScriptFault.TheVariants.{NoForm, AboveLimit, UnknownName, TakenName}
use Rattle.script.specs.declared.forms.Kind.{Kind}
use Rattle.script.specs.declared.forms.Kind.TheVariants.{Known, Fresh, Number, Quoted}
use Rattle.script.specs.declared.lines.Line.{Line}
use Rattle.script.specs.declared.stretch.Stretch.{Stretch}
use Rattle.script.specs.Faults.{fault_at}
use Rattle.script.specs.Names.{Named, meaning}
use Rattle.script.specs.Shapes.{word, number, quoted, value}
use Rattle.script.specs.Stretches.{bytes_of}

-- the shape that a kind of token has
abbrev pub shape : Kind → List ℕ → Bool
shape Known token = word token
shape Fresh token = word token
shape Number token = number token
shape Quoted token = quoted token

-- what a token of the right shape stands for, by its bytes: a name has to be known, or to be new, and a number is at most the limit
abbrev pub shaped : List Named → Kind → (token : Stretch) (bytes : List ℕ) → Result Arg ScriptFault
shaped names Known token bytes = ok_or (option_map arg.Version (meaning names bytes)) UnknownName
shaped names Fresh token bytes = cond (is_some (meaning names bytes)) (Err TakenName) (Ok (arg.Name token))
shaped names Number token bytes = cond (nat_lt limit (value 0 bytes)) (Err AboveLimit) (Ok (arg.Number (value 0 bytes)))
shaped names Quoted token bytes = Ok (arg.Quoted (record { start = token.start + 1; end = token.end - 1 }))

-- what a token stands for
abbrev pub meant : List Named → Kind → (token : Stretch) (bytes : List ℕ) → Result Arg ScriptFault
meant names kind token bytes = cond (shape kind bytes) (shaped names kind token bytes) (Err NoForm)

abbrev pub placed : Line → Stretch → Result Arg ScriptFault → Result Arg Fault
placed line token (Ok arg) = Ok arg
placed line token (Err cause) = Err (fault_at line cause token.start)

-- a token of a line as an argument, or its fault
abbrev pub argument : List Named → List ℕ → Line → Kind → Stretch → Result Arg Fault
argument names text line kind token = placed line token (meant names kind token (bytes_of token text))

-- of two parts of a line: both are good, or the fault of the smaller row answers, and the left one if the rows are the same
abbrev pub both : Result (List Arg) Fault → Result (List Arg) Fault → Result (List Arg) Fault
both (Ok args) (Ok more) = Ok (args ++ more)
both (Ok args) (Err right) = Err right
both (Err left) (Ok more) = Err left
both (Err left) (Err right) = Err (cond (nat_lt right.row.number left.row.number) right left)

abbrev pub one : Result Arg Fault → Result (List Arg) Fault
one (Ok arg) = Ok (arg ∷ [])
one (Err fault) = Err fault

-- The arguments of a line that ends where `text` does, by the kinds that its form has.
-- A token that the form lacks is a fault, and so is a missing one, at the place behind the line.
abbrev pub arguments : List Named → List ℕ → Line → List Kind → List Stretch → Result (List Arg) Fault
arguments names text line [] [] = Ok []
arguments names text line [] (token ∷ tokens) = Err (fault_at line NoForm token.start)
arguments names text line (kind ∷ kinds) [] = Err (fault_at line NoForm (length text))
arguments names text line (kind ∷ kinds) (token ∷ tokens) =
    both (one (argument names text line kind token)) (arguments names text line kinds tokens)
