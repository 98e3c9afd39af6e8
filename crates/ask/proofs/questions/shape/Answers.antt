use Rattle.std.proofs.Common.{◌<◌, length, sym, subst, arith}
use Rattle.std.proofs.lemmas.Grind.{common_steps}
use Rattle.model.proofs.Histories.{with_history}
use Rattle.book.specs.Changing.{Root}
use Rattle.book.specs.Records.{Sound}
use Rattle.ask.proofs.questions.shape.Goals as goal

pub returns-in_err-root : goal.returns-in_err-root
returns-in_err-root c = with_history (λ texts. grind (arith, common_steps))

pub returns-in_default : goal.returns-in_default
returns-in_default c = with_history (λ texts.
    let tree = c.in_ok-root.ensures.case.tree c.settled-nodes.result.now c.settled-nodes.ensures in
    grind (arith, common_steps))

pub returns : goal.returns
unfolding Sound
returns c = with_history (λ texts.
    let settled = c.settled-nodes.ensures in
    let rooted = c.in_ok-root.ensures.case in
    let tree = rooted.tree c.settled-nodes.result.now settled in
    let used : c.in-Some.slot < length c.settled-nodes.result.now =
    subst (Root (length c.settled-nodes.result.now)) c.in-Some.is (subst (λ n. Root n c.in_ok-root.root) (sym settled.long) rooted.held) in
    let stands = settled.sound c.in-Some.slot used in
    grind (arith, common_steps))
