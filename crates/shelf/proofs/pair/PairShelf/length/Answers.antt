use Rattle.std.proofs.Common.{◌<◌, ◌≤◌, length, arith}
use Rattle.shelf.specs.Kinds.{pair_texts}
use Rattle.shelf.proofs.Copies.{length_alike, first_there, first_same, second_there, second_same}
use Rattle.shelf.proofs.pair.PairShelf.length.Goals as goal

pub returns-then-k-count : goal.returns-then-k-count
returns-then-k-count g c =
    let xs = g.A.Shelf.texts c.args.self.now.first in
    let ys = g.B.Shelf.texts c.args.self.now.second in
    let k = c.args.k in
    let h : k < length xs = omega arith in
    length_alike (pair_texts xs ys) xs k k (first_there xs ys k (omega arith) h) (first_same xs ys k (omega arith) h) c.length.ensures

pub returns-else-k-count : goal.returns-else-k-count
returns-else-k-count g c =
    let xs = g.A.Shelf.texts c.args.self.now.first in
    let ys = g.B.Shelf.texts c.args.self.now.second in
    let k = c.args.k in
    let h : length xs ≤ k = omega arith in
    let e = rw c.count-count.ensures at c.length-else-k-count.ensures in
    length_alike (pair_texts xs ys) ys k _ (second_there xs ys k (omega arith) h) (second_same xs ys k (omega arith) h) e
