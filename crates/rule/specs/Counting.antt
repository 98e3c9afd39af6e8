-- The line ends of two strings put together.
use Rattle.std.specs.Prelude.{if◌then◌else◌, nat_eq}
use Rattle.std.proofs.Common.{arith}
use Rattle.std.proofs.lemmas.List.Sums.{sum_by-append, count_by-le-length}
use Rattle.rule.specs.Lines.{line_ends}
use Rattle.rule.specs.Rule.{Joins, saturating_sum}

pub line_ends_joins : Joins line_ends saturating_sum
line_ends_joins x y short =
    omega (
      arith,
      sum_by-append (λ b. (if nat_eq b 0x0A then 1 else 0)) x y,
      count_by-le-length (λ b. nat_eq b 0x0A) x,
      count_by-le-length (λ b. nat_eq b 0x0A) y,
    )
