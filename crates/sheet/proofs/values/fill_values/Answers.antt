use Rattle.std.proofs.Common.{length, rules}
use Rattle.sheet.specs.Reading.{rule_of}
use Rattle.sheet.proofs.Filling.{filled_more}
use Rattle.sheet.proofs.values.fill_values.Goals as goal

pub loop-slot-preserved : goal.loop-slot-preserved
loop-slot-preserved g c =
    let texts = g.S.Shelf.texts c.args.reader.now.shelf.now in
    let rule = rule_of g.R.Rule.value g.R.Rule.joined in
    let nodes = c.args.reader.now.nodes.now in
    let more = filled_more texts rule nodes c.loop-slot.values c.loop-slot.slot (length nodes) c.loop-slot-test.true in
    search rules
