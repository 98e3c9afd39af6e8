use Rattle.std.proofs.Common.{arith}
use Rattle.std.proofs.lemmas.Result.{MatchResult-weaker}
use Rattle.book.specs.Sides.{tree_side}
use Rattle.book.proofs.Heights.{pieces_size, low}
use Rattle.book.proofs.Stores.{stands_at, fork_made, no_more}
use Rattle.book.proofs.nodes.writes.fork.Goals as goal

pub overflow_add-x : goal.overflow_add-x
overflow_add-x c =
    let p = c.requires.pair in
    let k = stands_at p.ready c.args.a p.left in
    let l = stands_at p.ready c.args.b p.right in
    let s = p.short in omega arith

pub overflow_add-max : goal.overflow_add-max
overflow_add-max c =
    let p = c.requires.pair in
    let k = stands_at p.ready c.args.a p.left in
    let l = stands_at p.ready c.args.b p.right in
    omega (arith, low _ k.balanced k.filled k.short, low _ l.balanced l.filled l.short)

pub overflow_add-x-2 : goal.overflow_add-x-2
overflow_add-x-2 c =
    let p = c.requires.pair in
    let k = stands_at p.ready c.args.a p.left in
    let l = stands_at p.ready c.args.b p.right in
    let s = p.short in omega (arith, pieces_size _ k.filled, pieces_size _ l.filled)

pub returns : goal.returns
returns c = record {
  case = MatchResult-weaker c.put_record.result c.put_record.ensures
      (λ b a. fork_made (tree_side c.args.side) c.args.a c.args.b c.max.result c.order-left.result c.requires c.max.ensures c.order-left.ensures a) (λ _ e. no_more e);
}
