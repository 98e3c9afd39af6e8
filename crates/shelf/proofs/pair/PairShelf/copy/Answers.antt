use Rattle.std.proofs.Common.{◌<◌, ◌≤◌, length, arith}
use Rattle.shelf.specs.Kinds.{pair_texts}
use Rattle.shelf.proofs.Copies.{copied_alike, first_there, first_same, second_there, second_same}
use Rattle.shelf.proofs.pair.PairShelf.copy.Goals as goal

pub returns-then-k-count : goal.returns-then-k-count
returns-then-k-count g c =
    let xs = g.A.Shelf.texts c.args.self.now.first in
    let ys = g.B.Shelf.texts c.args.self.now.second in
    let k = c.args.k in
    let h : k < length xs = omega arith in
    let p = copied_alike (pair_texts xs ys) xs k k (first_there xs ys k (omega arith) h) (first_same xs ys k (omega arith) h)
    c.args.from c.args.out.now c.copy.ensures.answers c.copy.ensures.fills in
    record { answers = p.answers; fills = p.fills }

pub returns-else-k-count : goal.returns-else-k-count
returns-else-k-count g c =
    let xs = g.A.Shelf.texts c.args.self.now.first in
    let ys = g.B.Shelf.texts c.args.self.now.second in
    let k = c.args.k in
    let h : length xs ≤ k = omega arith in
    let a = rw c.count-count.ensures at c.copy-else-k-count.ensures.answers in
    let f = rw c.count-count.ensures at c.copy-else-k-count.ensures.fills in
    let p = copied_alike (pair_texts xs ys) ys k _ (second_there xs ys k (omega arith) h) (second_same xs ys k (omega arith) h)
    c.args.from c.args.out.now a f in
    record { answers = p.answers; fills = p.fills }
