use Rattle.std.proofs.Common.{◌++◌, arith, length-append, length-take}
use Rattle.shelf.specs.Texts.{most_texts}
use Rattle.shelf.proofs.pair.PairShelf.count.Goals as goal

pub returns : goal.returns
returns g c =
    let xs = g.A.Shelf.texts c.args.self.now.first in
    let ys = g.B.Shelf.texts c.args.self.now.second in
    omega (arith, length-take most_texts (xs ++ ys), length-append xs ys)
