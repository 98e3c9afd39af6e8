use Rattle.std.proofs.Common.{ap, arith}
use Rattle.std.proofs.lemmas.Result.{err_from_is_err_and}
use Rattle.book.specs.Sides.{tree_side}
use Rattle.book.proofs.Heights.{low}
use Rattle.book.proofs.Stores.{stands_at}
use Rattle.book.proofs.Forks.{sides_held}
use Rattle.book.proofs.Turns.{plain_level, plain_done, once_inner, once_outer, once_fails, once_done, four_left, four_right, twice_left, twice_right}
use Rattle.book.proofs.nodes.joins.lean.Goals as goal

pub sides-e-requires : goal.sides-e-requires
sides-e-requires c =
    let h = sides_held (tree_side c.args.side) c.args.t c.sides-c.result c.requires.pair.ready c.requires.pair.right c.sides-c.ensures in
    let w = c.requires.pair.ready.within in omega arith

pub overflow_add-a_height : goal.overflow_add-a_height
overflow_add-a_height c =
    let k = stands_at c.requires.pair.ready c.args.a c.requires.pair.left in omega (arith, low _ k.balanced k.filled k.short)

pub fork-requires : goal.fork-requires
fork-requires c = plain_level (tree_side c.args.side) c.args.a c.args.t c.requires c.if-t_height-a_height.true

pub bounds-nodes-c : goal.bounds-nodes-c
bounds-nodes-c c =
    let h = sides_held (tree_side c.args.side) c.args.t c.sides-c.result c.requires.pair.ready c.requires.pair.right c.sides-c.ensures in
    let w = c.requires.pair.ready.within in omega arith

pub bounds-nodes-d : goal.bounds-nodes-d
bounds-nodes-d c =
    let h = sides_held (tree_side c.args.side) c.args.t c.sides-c.result c.requires.pair.ready c.requires.pair.right c.sides-c.ensures in
    let w = c.requires.pair.ready.within in omega arith

pub fork-requires-in_default-2 : goal.fork-requires-in_default-2
fork-requires-in_default-2 c =
    once_inner (tree_side c.args.side) c.args.a c.args.t c.requires c.sides-c.result c.sides-c.ensures c.if-t_height-a_height.false c.if-c_height-d_height.true

pub fork-requires-in_default-2-2 : goal.fork-requires-in_default-2-2
fork-requires-in_default-2-2 c =
    once_outer (tree_side c.args.side) c.args.a c.args.t c.requires c.sides-c.result c.sides-c.ensures c.if-t_height-a_height.false c.if-c_height-d_height.true
    c.in_ok-inner-in_default-2.inner c.in_ok-inner-in_default-2.ensures.case

pub returns-in_err-outer-in_default-2 : goal.returns-in_err-outer-in_default-2
returns-in_err-outer-in_default-2 c =
    let p = err_from_is_err_and c.from_residual-in_err-outer-in_default-2.result c.from_residual-in_err-outer-in_default-2.ensures.1 in
    rw p.1
    (once_fails (tree_side c.args.side) c.args.a c.args.t c.requires c.sides-c.result c.sides-c.ensures c.if-t_height-a_height.false c.if-c_height-d_height.true
    c.in_ok-inner-in_default-2.inner c.in_ok-inner-in_default-2.ensures.case c.in_err-outer-in_default-2.ensures.case)

pub fork_four-requires : goal.fork_four-requires
fork_four-requires c =
    four_left (tree_side c.args.side) c.args.a c.args.t c.requires c.sides-c.result c.sides-c.ensures c.if-t_height-a_height.false
    c.sides-e.result c.sides-e.ensures c.if-c_height-d_height.false

pub fork_four-requires-in-Right : goal.fork_four-requires-in-Right
fork_four-requires-in-Right c =
    four_right (tree_side c.args.side) c.args.a c.args.t c.requires c.sides-c.result c.sides-c.ensures c.if-t_height-a_height.false
    c.sides-e.result c.sides-e.ensures c.if-c_height-d_height.false

pub returns-then-t_height-a_height : goal.returns-then-t_height-a_height
returns-then-t_height-a_height c = plain_done (tree_side c.args.side) c.args.a c.args.t c.requires c.if-t_height-a_height.true c.fork.ensures

pub returns-in_ok-outer-in_default-2 : goal.returns-in_ok-outer-in_default-2
returns-in_ok-outer-in_default-2 c =
    rw c.then.ensures
    (once_done (tree_side c.args.side) c.args.a c.args.t c.requires c.sides-c.result c.sides-c.ensures c.if-t_height-a_height.false c.if-c_height-d_height.true
    c.in_ok-inner-in_default-2.inner c.in_ok-inner-in_default-2.ensures.case c.in_ok-outer-in_default-2.outer c.in_ok-outer-in_default-2.ensures.case)

pub returns-in-Left : goal.returns-in-Left
returns-in-Left c =
    twice_left (tree_side c.args.side) c.args.a c.args.t c.requires c.sides-c.result c.sides-c.ensures c.if-t_height-a_height.false
    c.sides-e.result c.sides-e.ensures c.if-c_height-d_height.false (ap tree_side c.in-Left.is) c.fork_four.ensures

pub returns-in-Right : goal.returns-in-Right
returns-in-Right c =
    twice_right (tree_side c.args.side) c.args.a c.args.t c.requires c.sides-c.result c.sides-c.ensures c.if-t_height-a_height.false
    c.sides-e.result c.sides-e.ensures c.if-c_height-d_height.false (ap tree_side c.in-Right.is) c.fork_four-in-Right.ensures
