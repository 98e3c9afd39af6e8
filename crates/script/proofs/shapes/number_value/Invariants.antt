use Rattle.std.proofs.Common.{◌≡◌, ◌^◌, ◌<◌, true, drop}
use Rattle.script.specs.Shapes.{digit, all_of, value}
use Rattle.script.proofs.shapes.number_value.Given as goal

abbrev pub invariant-loop-byte : goal.invariant-loop-byte
invariant-loop-byte l =
    (value l.written (drop l.byte-index l.token) ≡ value 0 l.token)
    × (all_of digit (drop l.byte-index l.token) ≡ true)
    × (l.written < 10 ^ l.byte-index)
