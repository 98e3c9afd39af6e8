-- What a line does.
use Rattle.std.specs.Prelude.{ℕ, cond, List, [], Some, None, Ok, Err, Option, Result, nat_lt}
use Rattle.shelf.specs.declared.rows.Row.{Row}
use Rattle.script.specs.declared.command.Command.{Command}
use Rattle.script.specs.declared.fault.Fault.{Fault}
use Rattle.script.specs.declared.fault.ScriptFault.TheVariants.{SmallBuffer}
use Rattle.script.specs.declared.lines.Line.{Line}
use Rattle.script.specs.Bounds.{buffer_least}
use Rattle.script.specs.Faults.{script_row}
use Rattle.script.specs.Judgement.{judged, column_of_first}
use Rattle.runner.specs.Commands.{command_step}
use Rattle.runner.specs.State.{State}

-- a row that refuses a line: it is told with the line and the column of its first token
abbrev pub located : Line → (column : ℕ) → Row → Fault
located line column row = record { row = row; line = line.number; column = column }

abbrev pub placed : Line → (column : ℕ) → Result (List ℕ) Row → Result (List ℕ) Fault
placed line column (Ok bytes) = Ok bytes
placed line column (Err row) = Err (located line column row)

module _ (script : List ℕ) (texts : List (List ℕ)) where
  -- a line that is judged: its command is made, unless it has a fault
  abbrev pub judged_step : State → Line → (column : ℕ) → Result (Option Command) Fault → Result (List ℕ) Fault × State
  judged_step s line column (Ok None) = (Ok [], s)
  judged_step s line column (Ok (Some c)) = let r = command_step texts script s c in (placed line column r.0, r.1)
  judged_step s line column (Err fault) = (Err fault, s)

  -- a line whose first token stands at the column; a line without tokens does nothing, whatever the buffer
  abbrev pub begun_step : State → (room : ℕ) → Line → Option ℕ → Result (List ℕ) Fault × State
  begun_step s room line None = (Ok [], s)
  begun_step s room line (Some column) =
      cond (nat_lt room buffer_least) (Err (located line column (script_row SmallBuffer)), s) (judged_step s line column (judged s.names script line))

  -- the bytes that a line prints, or its fault, and what it leaves: `room` is the length of the output buffer
  abbrev pub line_step : State → (room : ℕ) → Line → Result (List ℕ) Fault × State
  line_step s room line = begun_step s room line (column_of_first script line)
