use Rattle.std.proofs.Common.{◌≡◌, map, length, take}
use Rattle.book.proofs.book.access.same_texts.Given as goal

abbrev pub invariant-loop-k : goal.invariant-loop-k
invariant-loop-k g l = take l.k l.lens ≡ take l.k (map length (g.S.Shelf.texts l.shelf))
