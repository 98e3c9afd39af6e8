-- The arguments that are read so far.
use Rattle.std.specs.Prelude.{ℕ, List, length, Ok, Err, Result}
use Rattle.script.specs.declared.args.Arg.{Arg}
use Rattle.script.specs.declared.args.Arg.TheVariants.{Version, Name, Number, Quoted}
use Rattle.script.specs.declared.copyvec.CopyVec.{CopyVec}
use Rattle.script.specs.declared.fault.Fault.{Fault}
use Rattle.script.specs.declared.forms.Kind.{Kind}
use Rattle.script.specs.declared.forms.Kind.TheVariants as kind
use Rattle.script.specs.declared.stretch.Stretch.{Stretch}
use Rattle.script.specs.CopyVec.{items}

-- the kind that an argument is of
abbrev pub kind_of : Arg → Kind
kind_of (Version version) = kind.Known
kind_of (Name name) = kind.Fresh
kind_of (Number number) = kind.Number
kind_of (Quoted quoted) = kind.Quoted

-- the version or the number that an argument stands for, else 0
abbrev pub value_of : Arg → ℕ
value_of (Version version) = version
value_of (Name name) = 0
value_of (Number number) = number
value_of (Quoted quoted) = 0

-- where there is no argument
abbrev pub nothing : Arg
nothing = Number 0

-- the stretch of a name to keep, or of what stands between two quotes, else an empty one
abbrev pub stretch_of : Arg → Stretch
stretch_of (Version version) = record { start = 0; end = 0 }
stretch_of (Name name) = name
stretch_of (Number number) = record { start = 0; end = 0 }
stretch_of (Quoted quoted) = quoted

abbrev pub outcome : Result (CopyVec Arg 4) Fault → Result (List Arg) Fault
outcome (Ok args) = Ok (items args)
outcome (Err fault) = Err fault

-- how many there are
abbrev pub filled : Result (CopyVec Arg 4) Fault → ℕ
filled (Ok args) = length (items args)
filled (Err fault) = 0
