use Rattle.std.proofs.Common.{arith}
use Rattle.std.proofs.lemmas.Result.{err_from_is_err_and}
use Rattle.book.proofs.Joining.{height_fits, level_pair, level_done, inner_pair, inner_less, inner_fails, leaning, top_fails, join_done}
use Rattle.book.proofs.nodes.joins.+join.Goals as goal

pub higher-requires : goal.higher-requires
higher-requires t c = (height_fits c.requires.ready c.args.left c.requires.left, height_fits c.requires.ready c.args.right c.requires.right)

pub fork-requires : goal.fork-requires
fork-requires t c = level_pair c.args.left c.args.right c.requires c.in-None.ensures

pub join-requires : goal.join-requires
join-requires t c = (
  omega (
    arith,
    c.decreases,
    inner_less c.in-Some.side c.args.left c.args.right c.requires c.in-Some.ensures c.order-high.result c.order-high.ensures c.sides-a.result c.sides-a.ensures
        c.order-x.result c.order-x.ensures,
  ),
  inner_pair c.in-Some.side c.args.left c.args.right c.requires c.in-Some.ensures c.order-high.result c.order-high.ensures c.sides-a.result c.sides-a.ensures
      c.order-x.result c.order-x.ensures,
)

pub returns-in_err-t-in-Some : goal.returns-in_err-t-in-Some
returns-in_err-t-in-Some t c =
    let p = err_from_is_err_and c.from_residual.result c.from_residual.ensures.1 in
    rw p.1 (inner_fails c.in-Some.side c.args.left c.args.right c.requires c.in-Some.ensures c.order-high.result c.order-high.ensures c.sides-a.result c.sides-a.ensures
    c.order-x.result c.order-x.ensures c.in_err-t-in-Some.ensures.case)

pub lean-requires : goal.lean-requires
lean-requires t c = leaning c.in-Some.side c.args.left c.args.right c.requires c.in-Some.ensures c.order-high.result c.order-high.ensures c.sides-a.result c.sides-a.ensures
    c.order-x.result c.order-x.ensures
    c.in_ok-t-in-Some.t c.in_ok-t-in-Some.ensures.case

pub returns-in_err-top-in-Some : goal.returns-in_err-top-in-Some
returns-in_err-top-in-Some t c =
    let p = err_from_is_err_and c.from_residual-in_err-top-in-Some.result c.from_residual-in_err-top-in-Some.ensures.1 in
    rw p.1 (top_fails c.in-Some.side c.args.left c.args.right c.requires c.in-Some.ensures c.order-high.result c.order-high.ensures c.sides-a.result c.sides-a.ensures
    c.order-x.result c.order-x.ensures
    c.in_ok-t-in-Some.t c.in_ok-t-in-Some.ensures.case c.in_err-top-in-Some.ensures.case)

pub returns-in-None : goal.returns-in-None
returns-in-None t c = level_done c.args.left c.args.right c.requires c.in-None.ensures c.fork.ensures

pub returns-in_ok-top-in-Some : goal.returns-in_ok-top-in-Some
returns-in_ok-top-in-Some t c = rw c.then.ensures (join_done c.in-Some.side c.args.left c.args.right c.requires c.in-Some.ensures c.order-high.result c.order-high.ensures c.sides-a.result c.sides-a.ensures
    c.order-x.result c.order-x.ensures
    c.in_ok-t-in-Some.t c.in_ok-t-in-Some.ensures.case c.in_ok-top-in-Some.top c.in_ok-top-in-Some.ensures.case)
