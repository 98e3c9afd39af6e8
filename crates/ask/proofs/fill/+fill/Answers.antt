use Rattle.std.proofs.Common.{length, arith, rules}
use Rattle.book.proofs.Reading.{reads_all, leaf_at, node_at}
use Rattle.ask.proofs.Fills.{piece_fills, left_fills, right_fills, both_fill}
use Rattle.ask.proofs.fill.+fill.Goals as goal

pub overflow_add-start : goal.overflow_add-start
overflow_add-start g t c =
    let p = leaf_at (reads_all c.args.reader.now.shown) c.requires.used c.in-Piece.is in
    let inside = c.requires.inside in
    omega (arith, p.within.2, p.size_is, (g.S.Shelf.fit c.args.reader.now.shelf.now).short c.in-Piece.text)

pub bounds-reader-left : goal.bounds-reader-left
bounds-reader-left g t c =
    omega (arith, (node_at (reads_all c.args.reader.now.shown) c.requires.used c.in-Fork.is).left_below, c.requires.used)

pub fill-requires : goal.fill-requires
fill-requires g t c κs within =
    let n = node_at (reads_all c.args.reader.now.shown) c.requires.used c.in-Fork.is in
    search rules

pub fill-requires-then-out-size : goal.fill-requires-then-out-size
fill-requires-then-out-size g t c κs within =
    let n = node_at (reads_all c.args.reader.now.shown) c.requires.used c.in-Fork.is in
    search rules

pub fill-requires-else-out-size : goal.fill-requires-else-out-size
fill-requires-else-out-size g t c κs within =
    let n = node_at (reads_all c.args.reader.now.shown) c.requires.used c.in-Fork.is in
    search rules

pub fill-requires-else-out-size-2 : goal.fill-requires-else-out-size-2
fill-requires-else-out-size-2 g t c κs within =
    let n = node_at (reads_all c.args.reader.now.shown) c.requires.used c.in-Fork.is in
    search rules

pub returns-in-Piece : goal.returns-in-Piece
returns-in-Piece g t c =
    let p = leaf_at (reads_all c.args.reader.now.shown) c.requires.used c.in-Piece.is in
    let copied = piece_fills p c.args.from c.args.out.now c.requires.inside in
    search rules

pub returns-then-from-size : goal.returns-then-from-size
returns-then-from-size g t c =
    let r = reads_all c.args.reader.now.shown in
    let n = node_at r c.requires.used c.in-Fork.is in
    let fills = right_fills r c.requires.used n c.args.from (length c.args.out.now) c.if-from-size.true in
    search rules

pub returns-then-out-size : goal.returns-then-out-size
returns-then-out-size g t c =
    let r = reads_all c.args.reader.now.shown in
    let n = node_at r c.requires.used c.in-Fork.is in
    let fills = left_fills r c.requires.used n c.args.from (length c.args.out.now) (omega arith) in
    search rules

pub returns-in_ok-fill-in-Fork-clause-fills : goal.returns-in_ok-fill-in-Fork-clause-fills
returns-in_ok-fill-in-Fork-clause-fills g t c =
    let r = reads_all c.args.reader.now.shown in
    let n = node_at r c.requires.used c.in-Fork.is in
    both_fill r c.requires.used n c.args.from (length c.split_at_mut-front.result.0.now) (length c.split_at_mut-front.result.1.now) (length c.args.out.now)
    c.fill-else-out-size.new.out c.fill-else-out-size-2.new.out (omega arith) (omega arith) c.in_ok-fill-in-Fork.ensures.fills c.fill-else-out-size-2.ensures.fills
