use Rattle.std.proofs.Common.{◌≡◌, ◌≤◌}
use Rattle.shelf.specs.Texts.{text, stretch}
use Rattle.sheet.proofs.pieces.piece_value.Given as goal

abbrev pub invariant-loop-done : goal.invariant-loop-done
invariant-loop-done g l = record {
  within : l.done ≤ l.len;
  value_is : l.value ≡ g.R.Rule.value (stretch l.from l.done (text (g.S.Shelf.texts l.shelf) l.k));
}
