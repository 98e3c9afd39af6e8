-- What an answer that was accepted holds.
use Rattle.std.proofs.Common.{◌≡◌, Ok, Result}

pub told : {T E : Type 0} {x y : T} → ◌≡◌ {A = Result T E} (Ok x) (Ok y) → x ≡ y
told e = cc
