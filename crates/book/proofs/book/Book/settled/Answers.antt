use Rattle.std.proofs.Common.{◌≡◌, ℕ, ◌-◌, take, subst, arith}
use Rattle.book.specs.Records.{store}
use Rattle.book.specs.Contents.{settled}
use Rattle.book.specs.Access.{Settled}
use Rattle.book.specs.View.{view_of}
use Rattle.book.proofs.Tested.{tested}
use Rattle.book.proofs.Settled.{settled_within, settled_records}
use Rattle.book.proofs.book.Book.settled.Goals as goal

pub returns : goal.returns
returns c =
    let b = c.args.self.now in
    let s = store b.nodes.now b.places in
    let e = c.settled_count-count.ensures in
    let z : settled b.places.used b.contents.draft ≡ c.settled_count-count.result - 0 = omega arith in
    subst (λ (k : ℕ). Settled (view_of (store b.nodes.now b.places) b.contents) (take k b.nodes.now)) z
    (settled_records (tested (store b.nodes.now b.places) b.contents b.sound))

pub slice_bounds-result-end : goal.slice_bounds-result-end
slice_bounds-result-end c =
    let b = c.args.self.now in
    let e = c.settled_count-count.ensures in
    omega (arith, settled_within (tested (store b.nodes.now b.places) b.contents b.sound))
