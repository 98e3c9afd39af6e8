-- What a sheet shows: the machine's sheet.
use Rattle.model.specs.Sheet as model
use Rattle.rule.specs.declared.Rule.{Ghosts}
use Rattle.sheet.specs.declared.sheet.Sheet.{Sheet}

abbrev pub sheet_view : {R V : Type 0} {rule : Ghosts R V} → Sheet R V rule → model.Sheet V
sheet_view s = record { values = s.values.now; covered = s.covered }
