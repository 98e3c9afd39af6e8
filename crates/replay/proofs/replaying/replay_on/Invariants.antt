use Rattle.std.proofs.Common.{take, vec_items}
use Rattle.book.specs.Whole.{view}
use Rattle.sheet.specs.Reading.{rule_of}
use Rattle.sheet.specs.View.{sheet_view}
use Rattle.replay.specs.Replays.{pick, Runs}
use Rattle.replay.proofs.replaying.replay_on.Given as goal

abbrev pub invariant-loop-call : goal.invariant-loop-call
invariant-loop-call g l =
    Runs l.inputs.patterns.now (pick (g.S.Shelf.texts l.inputs.first.now) (g.T.Shelf.texts l.inputs.second.now))
    (rule_of g.P.Rule.value g.P.Rule.joined) (rule_of g.Q.Rule.value g.Q.Rule.joined)
    (view l.initial.book) (view l.book) (sheet_view l.initial.first_sheet) (sheet_view l.first_sheet)
    (sheet_view l.initial.second_sheet) (sheet_view l.second_sheet) (take l.call-index l.calls) (vec_items l.answers)
