use Rattle.std.proofs.Common.{take, arith, length-take}
use Rattle.shelf.specs.Fits.{length_ring}
use Rattle.shelf.specs.Kinds.{ring_text}
use Rattle.shelf.specs.Texts.{limit}
use Rattle.shelf.proofs.ring.RingShelf.length.Goals as goal

pub returns : goal.returns
returns c =
    let bytes = c.args.self.now.bytes.now in
    let start = c.args.self.now.start in
    c.length_of_one.ensures (ring_text (take limit bytes) start) (omega (arith, length_ring (take limit bytes) start, length-take limit bytes))
