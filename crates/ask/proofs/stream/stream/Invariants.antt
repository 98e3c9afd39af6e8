use Rattle.std.proofs.Common.{◌≤◌}
use Rattle.book.specs.Reader.{bytes_at}
use Rattle.ask.proofs.Places.{NoneBefore}
use Rattle.ask.proofs.stream.stream.Given as goal

abbrev pub invariant-loop-at : goal.invariant-loop-at
invariant-loop-at g l =
    record { low : l.from ≤ l.at; none : NoneBefore l.pattern (bytes_at (g.S.Shelf.texts l.reader.shelf.now) l.reader.nodes.now l.slot) l.from l.at }
