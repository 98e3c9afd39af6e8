-- What the fields of a command are.
use Rattle.std.specs.Prelude.{◌≡◌, ℕ, ◌≤◌, true, List, Some, None, Ok, Err, Option, Result}
use Rattle.shelf.specs.Texts.{limit}
use Rattle.script.specs.declared.command.Command.{Command}
use Rattle.script.specs.declared.command.Command.TheVariants.{Open, Keep, Shape, Text, Say, Put, Cut, Crop, Toss, Show, Lines, Pairs, Find}
use Rattle.script.specs.declared.fault.Fault.{Fault}
use Rattle.script.specs.declared.stretch.Stretch.{Stretch}
use Rattle.script.specs.Bounds.{show_most}
use Rattle.script.specs.Names.{Named, meaning}
use Rattle.script.specs.Shapes.{plain, all_of, word}
use Rattle.script.specs.Stretches.{count, bytes_of, Inside}

-- a place, a length or the number of a text
abbrev pub Small : ℕ → Type 0
Small n = n ≤ limit

-- a version that a name stands for
abbrev pub Known : List Named → ℕ → Type 0
Known names version = (name : List ℕ) × (meaning names name ≡ Some version)

-- a word of the script that stands for no version yet
pub record New (names : List Named) (script : List ℕ) (name : Stretch) : Type 0 where
  pub inside : Inside name script
  pub is_word : word (bytes_of name script) ≡ true
  pub free : meaning names (bytes_of name script) ≡ None

-- 1 to 256 plain bytes of the script
pub record Quoted (script : List ℕ) (quoted : Stretch) : Type 0 where
  pub inside : Inside quoted script
  pub short : count quoted ≤ 256
  pub plain : all_of plain (bytes_of quoted script) ≡ true

abbrev pub Holds : List Named → (script : List ℕ) → Command → Type 0
Holds names script (Open version) = Known names version
Holds names script (Keep name) = New names script name
Holds names script (Shape version) = Known names version
Holds names script (Text place text from len) = Small place × Small text × Small from × Small len
Holds names script (Say place quoted) = Small place × Quoted script quoted
Holds names script (Put place version) = Small place × Known names version
Holds names script (Cut from len) = Small from × Small len
Holds names script (Crop from len) = Small from × Small len
Holds names script Toss = Unit {0}
Holds names script (Show version from len) = Known names version × Small from × (len ≤ show_most)
Holds names script (Lines version from len) = Known names version × Small from × Small len
Holds names script (Pairs version from len) = Known names version × Small from × Small len
Holds names script (Find version from quoted) = Known names version × Small from × Quoted script quoted

-- a judgement that answers a command
abbrev pub Holding : List Named → (script : List ℕ) → Result (Option Command) Fault → Type 0
Holding names script (Ok (Some command)) = Holds names script command
Holding names script (Ok None) = Unit {0}
Holding names script (Err fault) = Unit {0}
