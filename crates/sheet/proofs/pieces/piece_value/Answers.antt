use Rattle.std.proofs.Common.{◌≡◌, ◌+◌, arith, rules}
use Rattle.shelf.specs.Texts.{text}
use Rattle.sheet.proofs.Blocks.{one_more}
use Rattle.sheet.proofs.pieces.piece_value.Goals as goal
use Rattle.sheet.proofs.pieces.piece_value.Goals.{else-loop-done-test, then-loop-done-test+in_ok-more+else-len-done-gt4096}

pub loop-done-preserved : goal.loop-done-preserved
loop-done-preserved g c =
    let short = (g.S.Shelf.fit c.args.shelf.now).short c.args.k in
    let more = one_more g.R.Rule.value g.R.Rule.joined g.met.R.Rule.joins (text (g.S.Shelf.texts c.args.shelf.now) c.args.k) c.args.from c.loop-done.done
    c.min-count.result (c.loop-done.done + 4096) c.loop-done.block short (omega arith) (omega arith) c.loop-done.invariant.value_is c.in_ok-more.ensures in
    search rules

pub returns : goal.returns
returns g c =
    let short = (g.S.Shelf.fit c.args.shelf.now).short c.args.k in
    let within = c.loop-done.invariant.within in
    elim c.loop-done-test.branch [
      | else-loop-done-test w ↦
          let value = w.value-is in
          let e : c.loop-done.done ≡ c.args.len = omega (arith, w.loop-done-test.false) in
          cc
      | then-loop-done-test+in_ok-more+else-len-done-gt4096 w ↦
          let value = w.value-is in
          let joined = w.join-value.ensures in
          let more = one_more g.R.Rule.value g.R.Rule.joined g.met.R.Rule.joins (text (g.S.Shelf.texts c.args.shelf.now) c.args.k) c.args.from c.loop-done.done
          w.min-count.result c.args.len c.loop-done.block short (omega arith) (omega arith) c.loop-done.invariant.value_is w.in_ok-more.ensures in
          cc
    ]
