-- The meaning of the rule Lines.
use Rattle.std.specs.Prelude.{ℕ, List, count_by, nat_eq}

-- how many bytes are 0x0A
abbrev pub line_ends : List ℕ → ℕ
line_ends bytes = count_by (λ b. nat_eq b 0x0A) bytes
