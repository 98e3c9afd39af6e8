use Rattle.std.proofs.Common.{◌≡◌, leb, length, drop}
use Rattle.script.specs.Items.{printed}
use Rattle.script.proofs.items.fits.Given as goal

abbrev pub invariant-loop-item : goal.invariant-loop-item
invariant-loop-item l = leb (length (printed (drop l.item-index l.items))) l.left ≡ leb (length (printed l.items)) l.room
