use Rattle.std.proofs.Common.{[], arith}
use Rattle.std.proofs.lemmas.List.{get_or_read}
use Rattle.book.proofs.Reading.{reads_all, leaf_at, node_at}
use Rattle.std.proofs.lemmas.Grind.{common_steps}
use Rattle.sheet.proofs.values.slot_value.Goals as goal

pub piece_value-requires : goal.piece_value-requires
piece_value-requires g c =
    let p = leaf_at (reads_all c.args.reader.now.shown) c.requires.0 c.in-Piece.is in
    record { there = p.within.1; ends = p.within.2 }

pub offset_bounds-values-left : goal.offset_bounds-values-left
offset_bounds-values-left g c = omega (arith, (node_at (reads_all c.args.reader.now.shown) c.requires.0 c.in-Fork.is).left_below, c.requires.1)

pub bounds-values-left : goal.bounds-values-left
bounds-values-left g c = omega (arith, (node_at (reads_all c.args.reader.now.shown) c.requires.0 c.in-Fork.is).left_below, c.requires.1)

pub offset_bounds-values-right : goal.offset_bounds-values-right
offset_bounds-values-right g c = omega (arith, (node_at (reads_all c.args.reader.now.shown) c.requires.0 c.in-Fork.is).right_below, c.requires.1)

pub bounds-values-right : goal.bounds-values-right
bounds-values-right g c = omega (arith, (node_at (reads_all c.args.reader.now.shown) c.requires.0 c.in-Fork.is).right_below, c.requires.1)

pub returns-in-Piece : goal.returns-in-Piece
returns-in-Piece g c =
    let p = leaf_at (reads_all c.args.reader.now.shown) c.requires.0 c.in-Piece.is in
    grind (arith, common_steps)

pub returns-in-Fork : goal.returns-in-Fork
returns-in-Fork g c =
    let n = node_at (reads_all c.args.reader.now.shown) c.requires.0 c.in-Fork.is in
    let none = g.R.Rule.value [] in
    let left = get_or_read c.args.values.now c.in-Fork.left c.index-values-left.result (omega (arith, n.left_below, c.requires.1)) c.index-values-left.is none in
    let right = get_or_read c.args.values.now c.in-Fork.right c.index-values-right.result (omega (arith, n.right_below, c.requires.1)) c.index-values-right.is none in
    grind (arith, common_steps)
