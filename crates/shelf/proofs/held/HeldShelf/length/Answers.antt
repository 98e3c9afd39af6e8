use Rattle.std.proofs.Common.{take, arith, length-take}
use Rattle.shelf.specs.Texts.{limit}
use Rattle.shelf.proofs.held.HeldShelf.length.Goals as goal

pub returns : goal.returns
returns c =
    let bytes = c.args.self.now.bytes.now in
    c.length_of_one.ensures (take limit bytes) (omega (arith, length-take limit bytes))
