-- One building, and another that goes on with its result.
use Rattle.std.specs.Prelude.{◌+◌}
use Rattle.book.specs.declared.node.Built.{Built}

abbrev pub in_turn : {T U : Type 0} → Built T → Built U → Built U
in_turn x y = record { value = y.value; made = x.made + y.made }
