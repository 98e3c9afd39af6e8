use Rattle.std.proofs.Common.{[], arith, rules}
use Rattle.std.proofs.lemmas.List.{get_or_read}
use Rattle.sheet.specs.Reading.{rule_of}
use Rattle.book.proofs.Reading.{reads_all, leaf_at, node_at}
use Rattle.sheet.proofs.Stretches.{whole}
use Rattle.std.proofs.lemmas.Grind.{common_steps}
use Rattle.sheet.proofs.values.+stretch_value.Goals as goal

pub overflow_add-start : goal.overflow_add-start
overflow_add-start g t c =
    let p = leaf_at (reads_all c.args.reader.now.shown) c.requires.slot.0 c.in-Piece.is in
    let ends = p.within.2 in
    omega (arith, (g.S.Shelf.fit c.args.reader.now.shelf.now).short c.in-Piece.text)

pub piece_value-requires : goal.piece_value-requires
piece_value-requires g t c =
    let p = leaf_at (reads_all c.args.reader.now.shown) c.requires.slot.0 c.in-Piece.is in
    let ends = p.within.2 in
    record { there = p.within.1; ends = omega arith }

pub returns-in-Piece : goal.returns-in-Piece
returns-in-Piece g t c =
    let p = leaf_at (reads_all c.args.reader.now.shown) c.requires.slot.0 c.in-Piece.is in
    grind (arith, common_steps)

pub bounds-reader-left : goal.bounds-reader-left
bounds-reader-left g t c =
    let n = node_at (reads_all c.args.reader.now.shown) c.requires.slot.0 c.in-Fork.is in
    let low = c.requires.slot.0 in omega arith

pub overflow_add-from : goal.overflow_add-from
overflow_add-from g t c = let n = node_at (reads_all c.args.reader.now.shown) c.requires.slot.0 c.in-Fork.is in omega arith

pub overflow_add-from-else-front-from : goal.overflow_add-from-else-front-from
overflow_add-from-else-front-from g t c = let n = node_at (reads_all c.args.reader.now.shown) c.requires.slot.0 c.in-Fork.is in omega arith

pub stretch_value-requires : goal.stretch_value-requires
stretch_value-requires g t c κs within =
    let n = node_at (reads_all c.args.reader.now.shown) c.requires.slot.0 c.in-Fork.is in
    let slot = c.requires.slot in
    search rules

pub stretch_value-requires-then-front-from : goal.stretch_value-requires-then-front-from
stretch_value-requires-then-front-from g t c κs within =
    let n = node_at (reads_all c.args.reader.now.shown) c.requires.slot.0 c.in-Fork.is in
    let slot = c.requires.slot in
    search rules

pub stretch_value-requires-else-front-from : goal.stretch_value-requires-else-front-from
stretch_value-requires-else-front-from g t c κs within =
    let n = node_at (reads_all c.args.reader.now.shown) c.requires.slot.0 c.in-Fork.is in
    let slot = c.requires.slot in
    search rules

pub stretch_value-requires-else-front-from-2 : goal.stretch_value-requires-else-front-from-2
stretch_value-requires-else-front-from-2 g t c κs within =
    let n = node_at (reads_all c.args.reader.now.shown) c.requires.slot.0 c.in-Fork.is in
    let slot = c.requires.slot in
    search rules

pub returns-then-len-node : goal.returns-then-len-node
returns-then-len-node g t c =
    let texts = g.S.Shelf.texts c.args.reader.now.shelf.now in
    let rule = rule_of g.R.Rule.value g.R.Rule.joined in
    let there = get_or_read c.args.values.now c.args.slot c.index-values-slot.result c.requires.slot.1 c.index-values-slot.is (g.R.Rule.value []) in
    let whole = whole texts rule c.args.values.now c.args.reader.now.nodes.now (reads_all c.args.reader.now.shown).sound c.args.slot c.requires.slot.0 c.args.from c.args.len c.if-len-node.true c.requires.inside in
    search rules

pub returns-then-from-len : goal.returns-then-from-len
returns-then-from-len g t c =
    let n = node_at (reads_all c.args.reader.now.shown) c.requires.slot.0 c.in-Fork.is in
    grind (arith, common_steps)

pub returns-then-front-from : goal.returns-then-front-from
returns-then-front-from g t c =
    let n = node_at (reads_all c.args.reader.now.shown) c.requires.slot.0 c.in-Fork.is in
    grind (arith, common_steps)

pub returns-in_ok-second-in-Fork : goal.returns-in_ok-second-in-Fork
returns-in_ok-second-in-Fork g t c =
    let n = node_at (reads_all c.args.reader.now.shown) c.requires.slot.0 c.in-Fork.is in
    grind (arith, common_steps)
