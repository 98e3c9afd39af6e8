-- The faults of a script and of its lines, and where in a line they are.
use Rattle.std.specs.Prelude.{ℕ, ◌+◌, ◌-◌}
use Rattle.shelf.specs.declared.rows.Layer.TheVariants.{Script}
use Rattle.shelf.specs.declared.rows.Row.{Row}
use Rattle.script.specs.declared.fault.Fault.{Fault}
use Rattle.script.specs.declared.fault.ScriptFault.{ScriptFault}
use Rattle.script.specs.declared.fault.ScriptFault.TheVariants.{NoForm, AboveLimit, UnknownName, TakenName, LongShow, LongFile, SmallBuffer}
use Rattle.script.specs.declared.lines.Line.{Line}

-- the row of each fault of a script
abbrev pub script_row : ScriptFault → Row
script_row NoForm = record { number = 18; layer = Script }
script_row AboveLimit = record { number = 19; layer = Script }
script_row UnknownName = record { number = 20; layer = Script }
script_row TakenName = record { number = 21; layer = Script }
script_row LongShow = record { number = 22; layer = Script }
script_row LongFile = record { number = 23; layer = Script }
script_row SmallBuffer = record { number = 24; layer = Script }

-- the column of a place of a line, counted from 1
abbrev pub column : Line → ℕ → ℕ
column line place = place - line.start + 1

-- a fault of a line at a place of it
abbrev pub fault_at : Line → ScriptFault → ℕ → Fault
fault_at line cause place = record { row = script_row cause; line = line.number; column = column line place }
