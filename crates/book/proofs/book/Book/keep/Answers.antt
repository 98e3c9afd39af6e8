use Rattle.std.proofs.Common.{sym, ◌∙◌, rules, arith}
use Rattle.std.proofs.lemmas.Bool.{eqb-true, eqb-false}
use Rattle.model.proofs.Histories.{with_history}
use Rattle.book.specs.Records.{store}
use Rattle.book.proofs.Calls.{with_draft, steps_from, refused_from, keep_refused, keep_steps}
use Rattle.book.proofs.book.Book.keep.Goals as goal

pub returns-in_default : goal.returns-in_default
returns-in_default c = with_history (λ texts. search rules)

pub returns-then-is_full : goal.returns-then-is_full
returns-then-is_full c =
    let b = c.args.self.now in
    let full = eqb-true _ _ (sym c.is_full.ensures.value ∙ c.if-is_full.true) in
    with_history (refused_from {s = store b.nodes.now b.places} b.contents c.in-Some.is
    (keep_refused b.contents c.in-Some.draft (with_draft b.contents c.in-Some.is b.sound) (omega arith))).steps

pub invariant_of-self-2 : goal.invariant_of-self-2
invariant_of-self-2 c =
    let b = c.args.self.now in
    let free = eqb-false _ _ (sym c.is_full.ensures.value ∙ c.if-is_full.false) in record {
      sound = (keep_steps b.contents c.in-Some.draft (with_draft {s = store b.nodes.now b.places} b.contents c.in-Some.is b.sound) (omega arith)
          c.push.new.self c.push.ensures.items).keeps;
    }

pub overflow_sub-result : goal.overflow_sub-result
overflow_sub-result c =
    let b = c.args.self.now in
    (with_draft {s = store b.nodes.now b.places} b.contents c.in-Some.is b.sound).orderly.drafted.1

pub returns : goal.returns
returns c =
    let b = c.args.self.now in
    let free = eqb-false _ _ (sym c.is_full.ensures.value ∙ c.if-is_full.false) in
    rw c.len-version.ensures.value (with_history (steps_from {s = store b.nodes.now b.places} b.contents c.in-Some.is
    (keep_steps b.contents c.in-Some.draft (with_draft b.contents c.in-Some.is b.sound) (omega arith) c.push.new.self c.push.ensures.items)).steps)
