-- A list of at most N values in place.
use Rattle.std.specs.Prelude.{ℕ, List, take}
use Rattle.script.specs.declared.copyvec.CopyVec.{CopyVec}

abbrev pub items : {T : Type 0} {N : ℕ} → CopyVec T N → List T
items list = take list.len list.slots
