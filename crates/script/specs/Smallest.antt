-- Which of a line's faults answers: the one of the smallest row, and of that row the leftmost.
use Rattle.std.specs.Prelude.{◌≡◌, ℕ, ◌<◌, ◌≤◌, ◌⊎◌, List, [], ◌∷◌, ◌++◌, length, take, Some, None, Ok, Err, Option, Result}
use Rattle.std.specs.List.{AllByRecursion}
use Rattle.script.specs.declared.args.Arg.{Arg}
use Rattle.script.specs.declared.command.Command.{Command}
use Rattle.script.specs.declared.fault.Fault.{Fault}
use Rattle.script.specs.declared.fault.ScriptFault.TheVariants.{NoForm, LongShow}
use Rattle.script.specs.declared.forms.Kind.{Kind}
use Rattle.script.specs.declared.forms.Verb.{Verb}
use Rattle.script.specs.declared.lines.Line.{Line}
use Rattle.script.specs.declared.stretch.Stretch.{Stretch}
use Rattle.script.specs.Arguments.{argument}
use Rattle.script.specs.Faults.{script_row, fault_at}
use Rattle.script.specs.Forms.{form, verbs, verb_of}
use Rattle.script.specs.Names.{Named}
use Rattle.script.specs.Stretches.{bytes_of}
use Rattle.script.specs.Tokens.{tokens_from}

abbrev pub fault_of : Result Arg Fault → List Fault
fault_of (Ok arg) = []
fault_of (Err fault) = fault ∷ []

-- the faults of the tokens behind the first word, from left to right: each one too many, each misfit, and a missing one
abbrev pub misfits : List Named → List ℕ → Line → List Kind → List Stretch → List Fault
misfits names text line [] [] = []
misfits names text line [] (token ∷ tokens) = fault_at line NoForm token.start ∷ misfits names text line [] tokens
misfits names text line (kind ∷ kinds) [] = fault_at line NoForm (length text) ∷ []
misfits names text line (kind ∷ kinds) (token ∷ tokens) =
    fault_of (argument names text line kind token) ++ misfits names text line kinds tokens

-- a first token that is no verb is the only fault
abbrev pub faults_with_verb : List Named → List ℕ → Line → (first : Stretch) → List Stretch → Option Verb → List Fault
faults_with_verb names text line first tokens None = fault_at line NoForm first.start ∷ []
faults_with_verb names text line first tokens (Some verb) = misfits names text line (form verb).kinds tokens

abbrev pub faults_of_tokens : List Named → List ℕ → Line → List Stretch → List Fault
faults_of_tokens names text line [] = []
faults_of_tokens names text line (first ∷ tokens) = faults_with_verb names text line first tokens (verb_of verbs (bytes_of first text))

abbrev pub text_faults : List Named → (text : List ℕ) → Line → List Fault
text_faults names text line = faults_of_tokens names text line (tokens_from line.start text)

-- the faults of a line's tokens, from left to right
abbrev pub line_faults : List Named → (script : List ℕ) → Line → List Fault
line_faults names script line = text_faults names (take line.end script) line

-- of faults from left to right, no other has a smaller row than `fault`, and those to its left have larger ones
pub record Answers (fault : Fault) (faults : List Fault) : Type 0 where
  pub left : List Fault
  pub right : List Fault
  pub parts : faults ≡ left ++ fault ∷ right
  pub larger : AllByRecursion (λ (other : Fault). fault.row.number < other.row.number) left
  pub smallest : AllByRecursion (λ (other : Fault). fault.row.number ≤ other.row.number) right

-- A judgement answers a fault exactly if a token has one, and then the smallest, the leftmost of its row.
-- A show that is too long is refused only where no token has a fault.
abbrev pub Smallest : List Fault → Result (Option Command) Fault → Type 0
Smallest faults (Ok command) = faults ≡ []
Smallest faults (Err fault) = Answers fault faults ⊎ ((faults ≡ []) × (fault.row ≡ script_row LongShow))
