use Rattle.std.proofs.Common.{◌≡◌, ◌-◌, length}
use Rattle.book.specs.Records.{trees}
use Rattle.model.specs.Sheet.{filled}
use Rattle.sheet.specs.Reading.{rule_of}
use Rattle.sheet.proofs.values.fill_values.Given as goal

abbrev pub invariant-loop-slot : goal.invariant-loop-slot
invariant-loop-slot g l =
    filled (g.S.Shelf.texts l.reader.shelf.now) (rule_of g.R.Rule.value g.R.Rule.joined) (trees l.reader.nodes.now) l.values l.slot (length l.reader.nodes.now - l.slot)
    ≡ filled (g.S.Shelf.texts l.reader.shelf.now) (rule_of g.R.Rule.value g.R.Rule.joined) (trees l.reader.nodes.now) l.initial.values l.from (length l.reader.nodes.now - l.from)
