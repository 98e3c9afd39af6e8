use Rattle.std.proofs.lemmas.Result.{err_from_is_err_and}
use Rattle.book.specs.Records.{store, tree_in}
use Rattle.book.proofs.Changing.{put_fails, put_front, put_fails₂, put_whole, put_fails₃, put_done}
use Rattle.book.proofs.nodes.changes.put.Goals as goal

pub returns-in_err-parts : goal.returns-in_err-parts
returns-in_err-parts c =
    let p = err_from_is_err_and c.from_residual.result c.from_residual.ensures.1 in
    rw p.1 (put_fails c.args.root c.args.place c.in_err-parts.ensures.case (tree_in (store c.args.nodes.now c.args.places.now) c.args.tree))

pub join_any-requires : goal.join_any-requires
join_any-requires c = put_front c.args.root c.args.place c.requires.ready c.requires.left c.in_ok-parts.parts c.in_ok-parts.ensures.case
    c.args.tree c.requires.right c.requires.short

pub returns-in_err-front : goal.returns-in_err-front
returns-in_err-front c =
    let p = err_from_is_err_and c.from_residual-in_err-front.result c.from_residual-in_err-front.ensures.1 in
    rw p.1 (put_fails₂ c.args.root c.args.place c.requires.ready c.requires.left c.in_ok-parts.parts c.in_ok-parts.ensures.case
    c.args.tree c.requires.right c.requires.short c.in_err-front.ensures.case)

pub join_any-requires-2 : goal.join_any-requires-2
join_any-requires-2 c = put_whole c.args.root c.args.place c.requires.ready c.requires.left c.in_ok-parts.parts c.in_ok-parts.ensures.case
    c.args.tree c.requires.right c.requires.short c.in_ok-front.front c.in_ok-front.ensures.case

pub returns-in_err-whole : goal.returns-in_err-whole
returns-in_err-whole c =
    let p = err_from_is_err_and c.from_residual-in_err-whole.result c.from_residual-in_err-whole.ensures.1 in
    rw p.1 (put_fails₃ c.args.root c.args.place c.requires.ready c.requires.left c.in_ok-parts.parts c.in_ok-parts.ensures.case
    c.args.tree c.requires.right c.requires.short
    c.in_ok-front.front c.in_ok-front.ensures.case c.in_err-whole.ensures.case)

pub returns : goal.returns
returns c = rw (c.then-2.ensures, c.then.ensures) (put_done c.args.root c.args.place c.requires.ready c.requires.left c.in_ok-parts.parts c.in_ok-parts.ensures.case
    c.args.tree c.requires.right c.requires.short
    c.in_ok-front.front c.in_ok-front.ensures.case c.in_ok-whole.whole c.in_ok-whole.ensures.case)
