use Rattle.std.proofs.lemmas.Result.{err_from_is_err_and}
use Rattle.book.proofs.Turns.{four_second, four_fails₂, four_top, four_fails₃, four_done}
use Rattle.book.proofs.nodes.joins.fork_four.Goals as goal

pub fork-requires-2 : goal.fork-requires-2
fork-requires-2 c =
    four_second c.args.w c.args.x c.args.y c.args.z c.requires c.in_ok-left.left c.in_ok-left.ensures.case

pub returns-in_err-right : goal.returns-in_err-right
returns-in_err-right c =
    let p = err_from_is_err_and c.from_residual-in_err-right.result c.from_residual-in_err-right.ensures.1 in
    rw p.1
    (four_fails₂ c.args.w c.args.x c.args.y c.args.z c.requires c.in_ok-left.left c.in_ok-left.ensures.case
    c.in_err-right.ensures.case)

pub fork-requires-3 : goal.fork-requires-3
fork-requires-3 c =
    four_top c.args.w c.args.x c.args.y c.args.z c.requires c.in_ok-left.left c.in_ok-left.ensures.case
    c.in_ok-right.right c.in_ok-right.ensures.case

pub returns-in_err-top : goal.returns-in_err-top
returns-in_err-top c =
    let p = err_from_is_err_and c.from_residual-in_err-top.result c.from_residual-in_err-top.ensures.1 in
    rw p.1
    (four_fails₃ c.args.w c.args.x c.args.y c.args.z c.requires c.in_ok-left.left c.in_ok-left.ensures.case
    c.in_ok-right.right c.in_ok-right.ensures.case c.in_err-top.ensures.case)

pub returns : goal.returns
returns c =
    rw (c.then-2.ensures, c.then.ensures)
    (four_done c.args.w c.args.x c.args.y c.args.z c.requires c.in_ok-left.left c.in_ok-left.ensures.case
    c.in_ok-right.right c.in_ok-right.ensures.case c.in_ok-top.top c.in_ok-top.ensures.case)
