use Rattle.std.proofs.Common.{[], refl, inl, inr, arith}
use Rattle.std.proofs.lemmas.Option.{slice_get_within, get_or_from_slice_get}
use Rattle.book.specs.Contents.{noted}
use Rattle.book.proofs.Shown.{text_short}
use Rattle.book.proofs.EditRows.{piece_past, piece_long}
use Rattle.book.proofs.book.judge.piece.Goals.{then-place-size-via-then-place-size, then-place-size-via-else-place-size+then-from-whole, then-place-size-via-else-place-size+else-from-whole+then-len-whole}
use Rattle.book.proofs.book.judge.piece.Goals as goal

pub returns-then-place-size : goal.returns-then-place-size
returns-then-place-size c =
    let lens = noted c.args.contents.now in
    let there = slice_get_within lens c.args.text c.in_ok-whole.whole c.in_ok-whole.ensures in
    let e = get_or_from_slice_get lens c.args.text c.in_ok-whole.whole 0 c.in_ok-whole.ensures in
    record {
      case = piece_past lens [] c.args.size c.args.place c.args.text c.args.from c.args.len there
          (elim c.then-place-size.branch [
            | then-place-size-via-then-place-size w ↦ inl (omega (arith, w.if-place-size.true))
            | then-place-size-via-else-place-size+then-from-whole w ↦ inr (omega (arith, w.if-from-whole.true))
            | then-place-size-via-else-place-size+else-from-whole+then-len-whole w ↦ inr (omega (arith, w.if-len-whole.true, w.if-from-whole.false))
          ]);
    }

pub returns-then-len-size : goal.returns-then-len-size
returns-then-len-size c =
    let lens = noted c.args.contents.now in
    let there = slice_get_within lens c.args.text c.in_ok-whole.whole c.in_ok-whole.ensures in
    let e = get_or_from_slice_get lens c.args.text c.in_ok-whole.whole 0 c.in_ok-whole.ensures in
    record { case = piece_long lens [] c.args.size c.args.place c.args.text c.args.from c.args.len there (omega arith) (omega arith) (omega arith) (omega arith) }

pub overflow_cast-result-3 : goal.overflow_cast-result-3
overflow_cast-result-3 c = omega (arith, text_short (noted c.args.contents.now) c.requires.lens c.args.text c.in_ok-whole.whole c.in_ok-whole.ensures)

pub returns : goal.returns
returns c =
    let lens = noted c.args.contents.now in
    let there = slice_get_within lens c.args.text c.in_ok-whole.whole c.in_ok-whole.ensures in
    let e = get_or_from_slice_get lens c.args.text c.in_ok-whole.whole 0 c.in_ok-whole.ensures in
    record { case = (refl, record { inside = omega arith; there = there; whole = omega arith; some = omega arith; short = omega arith }) }
