use Rattle.std.proofs.Common.{rules}
use Rattle.model.proofs.Histories.{with_history}
use Rattle.book.specs.Records.{store}
use Rattle.book.proofs.Calls.{with_draft, steps_from, toss_steps}
use Rattle.book.proofs.book.Book.toss.Goals as goal

pub returns-in_default : goal.returns-in_default
returns-in_default c = with_history (λ texts. search rules)

pub invariant_of-self-2 : goal.invariant_of-self-2
invariant_of-self-2 c =
    let b = c.args.self.now in
    record { sound = (toss_steps b.contents c.in-Some.draft (with_draft {s = store b.nodes.now b.places} b.contents c.in-Some.is b.sound)).keeps }

pub returns : goal.returns
returns c =
    let b = c.args.self.now in
    with_history (steps_from {s = store b.nodes.now b.places} b.contents c.in-Some.is
    (toss_steps b.contents c.in-Some.draft (with_draft b.contents c.in-Some.is b.sound))).steps
