use Rattle.std.proofs.Common.{◌≡◌, map, length, take}
use Rattle.book.proofs.book.opening.note_lengths.Given as goal

abbrev pub invariant-loop-k : goal.invariant-loop-k
invariant-loop-k g l = l.lens.items ≡ take l.k (map length (g.S.Shelf.texts l.shelf))
