use Rattle.std.proofs.Common.{arith}
use Rattle.std.proofs.lemmas.Result.{err_from_is_err_and}
use Rattle.book.proofs.Parting.{piece_ends, piece_fails, piece_fails₂, piece_done, side_less, first_fits, between_done, left_inside, left_fails, left_pair, left_fails₂, left_done, right_inside, right_fails, right_pair, right_fails₂, right_done}
use Rattle.book.proofs.nodes.splits.+split.Goals as goal

pub leaf-requires : goal.leaf-requires
leaf-requires t c =
    let e = piece_ends c.args.slot c.args.place c.requires c.in-Piece.text c.in-Piece.start c.in-Piece.is in
    record { ready = c.requires.ready; some = c.requires.above; ends = omega arith }

pub returns-in_err-left-in-Piece : goal.returns-in_err-left-in-Piece
returns-in_err-left-in-Piece t c =
    let p = err_from_is_err_and c.from_residual.result c.from_residual.ensures.1 in
    rw p.1 (piece_fails c.args.slot c.args.place c.requires c.in-Piece.text c.in-Piece.start c.in-Piece.is c.in_err-left-in-Piece.ensures.case)

pub overflow_add-start : goal.overflow_add-start
overflow_add-start t c = let e = piece_ends c.args.slot c.args.place c.requires c.in-Piece.text c.in-Piece.start c.in-Piece.is in omega arith

pub overflow_sub-len : goal.overflow_sub-len
overflow_sub-len t c = let e = piece_ends c.args.slot c.args.place c.requires c.in-Piece.text c.in-Piece.start c.in-Piece.is in omega arith

pub leaf-requires-in-Piece : goal.leaf-requires-in-Piece
leaf-requires-in-Piece t c =
    let e = piece_ends c.args.slot c.args.place c.requires c.in-Piece.text c.in-Piece.start c.in-Piece.is in
    record { ready = c.in_ok-left-in-Piece.ensures.case.wrote.ready; some = omega arith; ends = omega arith }

pub returns-in_err-right-in-Piece : goal.returns-in_err-right-in-Piece
returns-in_err-right-in-Piece t c =
    let p = err_from_is_err_and c.from_residual-in_err-right-in-Piece.result c.from_residual-in_err-right-in-Piece.ensures.1 in
    rw p.1 (piece_fails₂ c.args.slot c.args.place c.requires c.in-Piece.text c.in-Piece.start c.in-Piece.is
    c.in_ok-left-in-Piece.left c.in_ok-left-in-Piece.ensures.case c.in_err-right-in-Piece.ensures.case)

pub bounds-nodes-left : goal.bounds-nodes-left
bounds-nodes-left t c =
    let h = first_fits c.args.slot c.args.place c.requires c.in-Fork.left c.in-Fork.right c.in-Fork.is in
    let w = c.requires.ready.within in omega arith

pub split-requires : goal.split-requires
split-requires t c =
    let h = side_less c.args.slot c.args.place c.requires c.in-Fork.left c.in-Fork.right c.in-Fork.is in
    (omega (arith, c.decreases), left_inside c.args.slot c.args.place c.requires c.in-Fork.left c.in-Fork.right c.in-Fork.is c.if-place-first.true)

pub returns-in_err-part-in-Fork : goal.returns-in_err-part-in-Fork
returns-in_err-part-in-Fork t c =
    let p = err_from_is_err_and c.from_residual-in_err-part-in-Fork.result c.from_residual-in_err-part-in-Fork.ensures.1 in
    rw p.1 (left_fails c.args.slot c.args.place c.requires c.in-Fork.left c.in-Fork.right c.in-Fork.is c.if-place-first.true c.in_err-part-in-Fork.ensures.case)

pub join-requires : goal.join-requires
join-requires t c = left_pair c.args.slot c.args.place c.requires c.in-Fork.left c.in-Fork.right c.in-Fork.is c.if-place-first.true c.in_ok-part-in-Fork.part c.in_ok-part-in-Fork.ensures.case

pub returns-in_err-rest-in-Fork : goal.returns-in_err-rest-in-Fork
returns-in_err-rest-in-Fork t c =
    let p = err_from_is_err_and c.from_residual-in_err-rest-in-Fork.result c.from_residual-in_err-rest-in-Fork.ensures.1 in
    rw p.1 (left_fails₂ c.args.slot c.args.place c.requires c.in-Fork.left c.in-Fork.right c.in-Fork.is c.if-place-first.true
    c.in_ok-part-in-Fork.part c.in_ok-part-in-Fork.ensures.case c.in_err-rest-in-Fork.ensures.case)

pub split-requires-else-place-first-2 : goal.split-requires-else-place-first-2
split-requires-else-place-first-2 t c =
    let h = side_less c.args.slot c.args.place c.requires c.in-Fork.left c.in-Fork.right c.in-Fork.is in (
      omega (arith, c.decreases),
      right_inside c.args.slot c.args.place c.requires c.in-Fork.left c.in-Fork.right c.in-Fork.is
          (omega (arith, c.if-place-first.false, c.if-place-first-2.false)),
    )

pub returns-in_err-part-in-Fork-2 : goal.returns-in_err-part-in-Fork-2
returns-in_err-part-in-Fork-2 t c =
    let p = err_from_is_err_and c.from_residual-in_err-part-in-Fork-2.result c.from_residual-in_err-part-in-Fork-2.ensures.1 in
    rw p.1 (right_fails c.args.slot c.args.place c.requires c.in-Fork.left c.in-Fork.right c.in-Fork.is
    (omega (arith, c.if-place-first.false, c.if-place-first-2.false)) c.in_err-part-in-Fork-2.ensures.case)

pub join-requires-else-place-first-2 : goal.join-requires-else-place-first-2
join-requires-else-place-first-2 t c = right_pair c.args.slot c.args.place c.requires c.in-Fork.left c.in-Fork.right c.in-Fork.is
    (omega (arith, c.if-place-first.false, c.if-place-first-2.false)) c.in_ok-part-in-Fork-2.part c.in_ok-part-in-Fork-2.ensures.case

pub returns-in_err-front-in-Fork : goal.returns-in_err-front-in-Fork
returns-in_err-front-in-Fork t c =
    let p = err_from_is_err_and c.from_residual-in_err-front-in-Fork.result c.from_residual-in_err-front-in-Fork.ensures.1 in
    rw p.1 (right_fails₂ c.args.slot c.args.place c.requires c.in-Fork.left c.in-Fork.right c.in-Fork.is
    (omega (arith, c.if-place-first.false, c.if-place-first-2.false))
    c.in_ok-part-in-Fork-2.part c.in_ok-part-in-Fork-2.ensures.case c.in_err-front-in-Fork.ensures.case)

pub returns-in_ok-right-in-Piece : goal.returns-in_ok-right-in-Piece
returns-in_ok-right-in-Piece t c = rw (c.with.ensures, c.then.ensures) (piece_done c.args.slot c.args.place c.requires c.in-Piece.text c.in-Piece.start c.in-Piece.is
    c.in_ok-left-in-Piece.left c.in_ok-left-in-Piece.ensures.case c.in_ok-right-in-Piece.right c.in_ok-right-in-Piece.ensures.case)

pub returns-in_ok-rest-in-Fork : goal.returns-in_ok-rest-in-Fork
returns-in_ok-rest-in-Fork t c = rw (c.with-then-place-first.ensures, c.then-then-place-first.ensures) (left_done c.args.slot c.args.place c.requires c.in-Fork.left c.in-Fork.right c.in-Fork.is c.if-place-first.true
    c.in_ok-part-in-Fork.part c.in_ok-part-in-Fork.ensures.case c.in_ok-rest-in-Fork.rest c.in_ok-rest-in-Fork.ensures.case)

pub returns-then-place-first-2 : goal.returns-then-place-first-2
returns-then-place-first-2 t c = rw c.there.ensures (between_done c.args.slot c.args.place c.requires c.in-Fork.left c.in-Fork.right c.in-Fork.is c.if-place-first-2.true)

pub returns-in_ok-front-in-Fork : goal.returns-in_ok-front-in-Fork
returns-in_ok-front-in-Fork t c = rw (c.with-else-place-first-2.ensures, c.then-else-place-first-2.ensures) (right_done c.args.slot c.args.place c.requires c.in-Fork.left c.in-Fork.right c.in-Fork.is
    (omega (arith, c.if-place-first.false, c.if-place-first-2.false))
    c.in_ok-part-in-Fork-2.part c.in_ok-part-in-Fork-2.ensures.case c.in_ok-front-in-Fork.front c.in_ok-front-in-Fork.ensures.case)
