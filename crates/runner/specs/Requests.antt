-- What a command asks for.
use Rattle.std.specs.Prelude.{ℕ, List}
use Rattle.model.specs.Calls.{BookCall, SheetCall, open_version, edit, toss, read, find, shape, summary}
use Rattle.model.specs.Calls as calls
use Rattle.script.specs.declared.command.Command.{Command}
use Rattle.script.specs.declared.command.Command.TheVariants.{Open, Keep, Shape, Text, Say, Put, Cut, Crop, Toss, Show, Lines, Pairs, Find}
use Rattle.script.specs.Stretches.{count, bytes_of}

-- A call on the book, on the sheet of line ends or on the sheet of brackets, or the keeping of the draft under a name.
pub data Request : Type 0 where
  of_book : BookCall → Request
  of_lines : SheetCall → Request
  of_pairs : SheetCall → Request
  keep_as : (name : List ℕ) → Request

-- `shown` are the lengths of the texts. What `say` puts is a piece of text 0, which is the script.
abbrev pub request : (script shown : List ℕ) → Command → Request
request script shown (Open version) = of_book (open_version version)
request script shown (Keep name) = keep_as (bytes_of name script)
request script shown (Shape version) = of_book (shape version)
request script shown (Text place text from len) = of_book (edit (calls.put_piece place text from len))
request script shown (Say place quoted) = of_book (edit (calls.put_piece place 0 quoted.start (count quoted)))
request script shown (Put place version) = of_book (edit (calls.put_version place version))
request script shown (Cut from len) = of_book (edit (calls.cut from len))
request script shown (Crop from len) = of_book (edit (calls.crop from len))
request script shown Toss = of_book toss
request script shown (Show version from len) = of_book (read version from len shown)
request script shown (Lines version from len) = of_lines (summary version from len shown)
request script shown (Pairs version from len) = of_pairs (summary version from len shown)
request script shown (Find version from quoted) = of_book (find version from (bytes_of quoted script) shown)
