use Rattle.std.proofs.Common.{arith}
use Rattle.script.specs.Answers.{fault_items}
use Rattle.script.proofs.Printing.{line_short}
use Rattle.script.proofs.fault.Fault.items.Goals as goal

pub returns-clause-short : goal.returns-clause-short
returns-clause-short c =
    let few = line_short (fault_items c.args.self) (tt, (omega arith, (tt, (omega arith, (omega arith, tt))))) in
    omega arith
