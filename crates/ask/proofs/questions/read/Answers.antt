use Rattle.std.proofs.Common.{arith}
use Rattle.std.proofs.lemmas.Grind.{common_steps}
use Rattle.model.proofs.Histories.{book_goes_on}
use Rattle.ask.proofs.questions.read.Goals as goal

pub returns-in_err-length-clause-history : goal.returns-in_err-length-clause-history
returns-in_err-length-clause-history g c = book_goes_on (grind (arith, common_steps))

pub returns-then-branch-clause-history : goal.returns-then-branch-clause-history
returns-then-branch-clause-history g c = book_goes_on (grind (arith, common_steps))

pub returns-in_err-reader-clause-history : goal.returns-in_err-reader-clause-history
returns-in_err-reader-clause-history g c = book_goes_on (grind (arith, common_steps))

pub returns-in_ok-fill-clause-history : goal.returns-in_ok-fill-clause-history
returns-in_ok-fill-clause-history g c = book_goes_on (grind (arith, common_steps))

pub returns-in_default-clause-history : goal.returns-in_default-clause-history
returns-in_default-clause-history g c = book_goes_on (grind (arith, common_steps))
