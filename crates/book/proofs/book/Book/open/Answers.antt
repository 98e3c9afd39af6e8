use Rattle.std.proofs.Common.{sym, ◌∙◌}
use Rattle.std.proofs.lemmas.Option.{slice_get_within}
use Rattle.std.proofs.lemmas.Result.{err_from_is_err_and}
use Rattle.model.proofs.Histories.{with_history}
use Rattle.book.specs.Records.{store}
use Rattle.book.specs.Contents.{versions}
use Rattle.book.proofs.Tested.{tested}
use Rattle.book.proofs.Calls.{open_not_kept, open_drafted, with_draft, steps_from, none_is, open_steps}
use Rattle.book.proofs.book.Book.open.Goals as goal

pub returns-in_err-root : goal.returns-in_err-root
returns-in_err-root c =
    let b = c.args.self.now in
    let p = err_from_is_err_and c.from_residual.result c.from_residual.ensures.1 in
    let h = c.in_err-root.ensures in
    rw (p.1, p.2, h.0) (with_history (open_not_kept (tested (store b.nodes.now b.places) b.contents b.sound) c.args.version h.1))

pub returns-then-is_some : goal.returns-then-is_some
returns-then-is_some c =
    let b = c.args.self.now in
    let there = slice_get_within (versions b.contents) c.args.version c.in_ok-root.root c.in_ok-root.ensures in
    with_history (open_drafted (tested (store b.nodes.now b.places) b.contents b.sound) c.args.version there (sym c.is_some.ensures ∙ c.if-is_some.true))

pub invariant_of-self-2 : goal.invariant_of-self-2
invariant_of-self-2 c =
    let b = c.args.self.now in
    let e = none_is b.contents.draft (sym c.is_some.ensures ∙ c.if-is_some.false) in
    record { sound = (open_steps b.contents (with_draft {s = store b.nodes.now b.places} b.contents e b.sound) c.args.version c.in_ok-root.root c.in_ok-root.ensures).keeps }

pub returns : goal.returns
returns c =
    let b = c.args.self.now in
    let e = none_is b.contents.draft (sym c.is_some.ensures ∙ c.if-is_some.false) in
    with_history (steps_from {s = store b.nodes.now b.places} b.contents e
    (open_steps b.contents (with_draft b.contents e b.sound) c.args.version c.in_ok-root.root c.in_ok-root.ensures)).steps
