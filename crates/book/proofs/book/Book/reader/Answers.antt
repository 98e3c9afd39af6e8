use Rattle.std.proofs.Common.{sym}
use Rattle.book.proofs.Reading.{settled_readable}
use Rattle.book.proofs.book.Book.reader.Goals as goal

pub invariant_of-result : goal.invariant_of-result
invariant_of-result g c = record {
  shown = settled_readable c.settled.ensures (g.S.Shelf.texts c.args.shelf.now) (sym c.if-not-has_texts.ensures);
}
