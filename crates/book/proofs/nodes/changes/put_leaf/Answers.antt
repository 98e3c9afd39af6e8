use Rattle.std.proofs.lemmas.Result.{err_from_is_err_and}
use Rattle.book.proofs.Changing.{leaf_two, leaf_fails, leaf_done}
use Rattle.book.proofs.nodes.changes.put_leaf.Goals as goal

pub put-requires : goal.put-requires
put-requires c = leaf_two c.args.root c.args.place c.args.text c.args.start c.args.len c.requires.ready c.requires.root c.requires.short
    c.in_ok-piece.piece c.in_ok-piece.ensures.case

pub returns-in_err-whole : goal.returns-in_err-whole
returns-in_err-whole c =
    let p = err_from_is_err_and c.from_residual-in_err-whole.result c.from_residual-in_err-whole.ensures.1 in
    rw p.1 (leaf_fails c.args.root c.args.place c.args.text c.args.start c.args.len c.requires.ready c.requires.root c.requires.short
    c.in_ok-piece.piece c.in_ok-piece.ensures.case c.in_err-whole.ensures.case)

pub returns : goal.returns
returns c = rw c.then.ensures (leaf_done c.args.root c.args.place c.args.text c.args.start c.args.len c.requires.ready c.requires.root c.requires.short
    c.in_ok-piece.piece c.in_ok-piece.ensures.case
    c.in_ok-whole.whole c.in_ok-whole.ensures.case)
