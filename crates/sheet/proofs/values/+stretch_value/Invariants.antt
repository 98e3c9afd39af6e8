use Rattle.sheet.proofs.values.+stretch_value.Given as goal

abbrev pub decreases-stretch_value : goal.decreases-stretch_value
decreases-stretch_value g l = l.slot
