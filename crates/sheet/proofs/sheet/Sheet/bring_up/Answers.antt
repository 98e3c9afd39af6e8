use Rattle.std.proofs.Common.{arith}
use Rattle.std.proofs.lemmas.Grind.{common_steps}
use Rattle.model.proofs.Histories.{sheet_with_history}
use Rattle.sheet.specs.Reading.{rule_of}
use Rattle.sheet.proofs.Filling.{filled_settled}
use Rattle.sheet.proofs.sheet.Sheet.bring_up.Goals as goal

pub returns-then-values-count : goal.returns-then-values-count
returns-then-values-count g c = sheet_with_history (grind (arith, common_steps))

pub returns-in_err-reader : goal.returns-in_err-reader
returns-in_err-reader g c = sheet_with_history (grind (arith, common_steps))

pub returns : goal.returns
returns g c =
    let texts = g.S.Shelf.texts c.args.shelf.now in
    let rule = rule_of g.R.Rule.value g.R.Rule.joined in
    let settled = c.in_ok-reader.ensures.1.settled in
    let filled = filled_settled texts rule settled c.args.self.now.values.now c.args.self.now.covered in
    let shelf = c.in_ok-reader.ensures.0 in
    sheet_with_history (grind (arith, common_steps))
