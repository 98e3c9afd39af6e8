-- The judgement of a line: its command, nothing if it is blank, or its fault.
use Rattle.std.specs.Prelude.{ℕ, cond, List, [], ◌∷◌, take, Some, None, Ok, Err, Option, Result, nat_lt, slice_index_or}
use Rattle.script.specs.declared.args.Arg.{Arg}
use Rattle.script.specs.declared.command.Command.{Command}
use Rattle.script.specs.declared.command.Command.TheVariants as call
use Rattle.script.specs.declared.fault.Fault.{Fault}
use Rattle.script.specs.declared.fault.ScriptFault.TheVariants.{NoForm, LongShow}
use Rattle.script.specs.declared.forms.Verb.{Verb}
use Rattle.script.specs.declared.forms.Verb.TheVariants.{Open, Keep, Shape, Text, Say, Put, Cut, Crop, Toss, Show, Lines, Pairs, Find}
use Rattle.script.specs.declared.lines.Line.{Line}
use Rattle.script.specs.declared.stretch.Stretch.{Stretch}
use Rattle.script.specs.Args.{value_of, nothing, stretch_of}
use Rattle.script.specs.Arguments.{arguments}
use Rattle.script.specs.Bounds.{show_most}
use Rattle.script.specs.Faults.{column, fault_at}
use Rattle.script.specs.Forms.{form, verbs, verb_of}
use Rattle.script.specs.Names.{Named}
use Rattle.script.specs.Stretches.{bytes_of}
use Rattle.script.specs.Tokens.{tokens_from}

-- what argument j stands for, and its stretch
abbrev pub value : List Arg → ℕ → ℕ
value args j = value_of (slice_index_or args j nothing)

abbrev pub part : List Arg → ℕ → Stretch
part args j = stretch_of (slice_index_or args j nothing)

-- the command of a form with its arguments
abbrev pub command : Verb → List Arg → Command
command Open args = call.Open (value args 0)
command Keep args = call.Keep (part args 0)
command Shape args = call.Shape (value args 0)
command Text args = call.Text (value args 0) (value args 1) (value args 2) (value args 3)
command Say args = call.Say (value args 0) (part args 1)
command Put args = call.Put (value args 0) (value args 1)
command Cut args = call.Cut (value args 0) (value args 1)
command Crop args = call.Crop (value args 0) (value args 1)
command Toss args = call.Toss
command Show args = call.Show (value args 0) (value args 1) (value args 2)
command Lines args = call.Lines (value args 0) (value args 1) (value args 2)
command Pairs args = call.Pairs (value args 0) (value args 1) (value args 2)
command Find args = call.Find (value args 0) (value args 1) (part args 2)

-- how many bytes a command shows
abbrev pub shown : Command → ℕ
shown (call.Open version) = 0
shown (call.Keep name) = 0
shown (call.Shape version) = 0
shown (call.Text place text from len) = 0
shown (call.Say place quoted) = 0
shown (call.Put place version) = 0
shown (call.Cut from len) = 0
shown (call.Crop from len) = 0
shown call.Toss = 0
shown (call.Show version from len) = len
shown (call.Lines version from len) = 0
shown (call.Pairs version from len) = 0
shown (call.Find version from quoted) = 0

-- a command that shows too much is a fault of the line's first token
abbrev pub ready : Line → (first : Stretch) → Command → Result (Option Command) Fault
ready line first c = cond (nat_lt show_most (shown c)) (Err (fault_at line LongShow first.start)) (Ok (Some c))

abbrev pub with_arguments : Line → (first : Stretch) → Verb → Result (List Arg) Fault → Result (Option Command) Fault
with_arguments line first verb (Ok args) = ready line first (command verb args)
with_arguments line first verb (Err fault) = Err fault

-- the first token has to be a verb; where it is not, the others are not looked at
abbrev pub with_verb : List Named → List ℕ → Line → (first : Stretch) → List Stretch → Option Verb → Result (Option Command) Fault
with_verb names text line first tokens None = Err (fault_at line NoForm first.start)
with_verb names text line first tokens (Some verb) = with_arguments line first verb (arguments names text line (form verb).kinds tokens)

-- a line without tokens does nothing
abbrev pub with_tokens : List Named → List ℕ → Line → List Stretch → Result (Option Command) Fault
with_tokens names text line [] = Ok None
with_tokens names text line (first ∷ tokens) = with_verb names text line first tokens (verb_of verbs (bytes_of first text))

-- the judgement of a line that ends where the text does
abbrev pub judged_text : List Named → (text : List ℕ) → Line → Result (Option Command) Fault
judged_text names text line = with_tokens names text line (tokens_from line.start text)

-- the judgement of a line of a script, by the names given so far
abbrev pub judged : List Named → (script : List ℕ) → Line → Result (Option Command) Fault
judged names script line = judged_text names (take line.end script) line

-- the column of a line's first token
abbrev pub first_column : Line → List Stretch → Option ℕ
first_column line [] = None
first_column line (first ∷ tokens) = Some (column line first.start)

abbrev pub column_of_first : (script : List ℕ) → Line → Option ℕ
column_of_first script line = first_column line (tokens_from line.start (take line.end script))
