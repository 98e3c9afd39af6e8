use Rattle.std.proofs.lemmas.Result.{IfOk-weaker}
use Rattle.book.specs.Whole.{view}
use Rattle.sheet.specs.Reading.{rule_of}
use Rattle.sheet.specs.View.{sheet_view}
use Rattle.replay.specs.Replays.{pick, Runs}
use Rattle.replay.proofs.Lawful.{replayed}
use Rattle.replay.proofs.replaying.replay.Goals as goal

pub returns : goal.returns
returns g c =
    let inputs = c.args.inputs.now in
    let patterns = inputs.patterns.now in
    let texts = pick (g.S.Shelf.texts inputs.first.now) (g.T.Shelf.texts inputs.second.now) in
    let p = rule_of g.P.Rule.value g.P.Rule.joined in
    let q = rule_of g.Q.Rule.value g.Q.Rule.joined in
    IfOk-weaker c.replay_on.result
    (λ told. Runs patterns texts p q
    (view c.open_book-book.result) (view c.replay_on.new.book)
    (sheet_view c.new-first_sheet.result) (sheet_view c.replay_on.new.first_sheet)
    (sheet_view c.new-second_sheet.result) (sheet_view c.replay_on.new.second_sheet) c.args.calls.now told.items)
    _
    (λ told r. replayed patterns texts p q g.met.P.Rule.joins g.met.Q.Rule.joins
    (view c.open_book-book.result) (view c.replay_on.new.book)
    (sheet_view c.new-first_sheet.result) (sheet_view c.replay_on.new.first_sheet)
    (sheet_view c.new-second_sheet.result) (sheet_view c.replay_on.new.second_sheet) _ _ _ c.args.calls.now told.items
    c.open_book-book.ensures c.new-first_sheet.ensures c.new-second_sheet.ensures r)
    c.replay_on.ensures
