use Rattle.std.proofs.Common.{◌+◌, Some, None, Ok, ap, arith, length-take}
use Rattle.book.specs.Reader.{bytes_at}
use Rattle.book.proofs.Reading.{reads_all, stands}
use Rattle.model.specs.Found.{Found}
use Rattle.ask.proofs.Fills.{length_bytes}
use Rattle.ask.proofs.Places.{searched, found_there, none_there, found_nowhere, found_first_place}
use Rattle.ask.proofs.stream.stream.Goals as goal
use Rattle.ask.proofs.stream.stream.Goals.{else-loop-at-test, then-loop-at-test+in_ok-fill+in_default+else-at-step-stop}

pub loop-at-init : goal.loop-at-init
loop-at-init g c = record { low = omega arith; none = λ k l h. absurd (omega arith) }

pub returns-then-from-stop : goal.returns-then-from-stop
returns-then-from-stop g c =
    let r = reads_all c.args.reader.now.shown in
    let s = bytes_at (g.S.Shelf.texts c.args.reader.now.shelf.now) c.args.reader.now.nodes.now c.args.slot in
    let pattern = c.args.pattern.now in
    let e = (stands r c.requires.used).len in
    let l = length_bytes r c.args.slot c.requires.used in
    ap Ok (found_first_place pattern s c.args.from None c.requires.some
    (found_nowhere pattern c.requires.some s c.args.from c.args.from (λ k l h. absurd (omega arith)) (omega (arith, c.if-from-stop.true))))

pub fill-requires-clause-inside : goal.fill-requires-clause-inside
fill-requires-clause-inside g c =
    let e = (stands (reads_all c.args.reader.now.shown) c.requires.used).len in
    simp length-take (omega arith)

pub returns-in-Some : goal.returns-in-Some
returns-in-Some g c =
    let s = bytes_at (g.S.Shelf.texts c.args.reader.now.shelf.now) c.args.reader.now.nodes.now c.args.slot in
    let pattern = c.args.pattern.now in
    let at = c.loop-at.at in
    let n = c.min-n.result in
    let found = searched pattern c.requires.some s at n c.loop-at.window c.fill.new.out (omega arith) c.in_ok-fill.ensures.fills c.fill.auto.out c.finder_of-finder.result c.finder_of-finder.ensures (Some c.in-Some.place) c.in-Some.ensures in
    ap Ok (found_first_place pattern s c.args.from (Some (at + c.in-Some.place)) c.requires.some
    (found_there pattern c.requires.some s c.args.from at n c.loop-at.invariant.none c.loop-at.invariant.low c.in-Some.place found))

pub loop-at-preserved : goal.loop-at-preserved
loop-at-preserved g c =
    let s = bytes_at (g.S.Shelf.texts c.args.reader.now.shelf.now) c.args.reader.now.nodes.now c.args.slot in
    let pattern = c.args.pattern.now in
    let at = c.loop-at.at in
    let n = c.min-n.result in
    let found = searched pattern c.requires.some s at n c.loop-at.window c.fill.new.out (omega arith) c.in_ok-fill.ensures.fills c.fill.auto.out c.finder_of-finder.result c.finder_of-finder.ensures None c.in_default.ensures in
    let low = c.loop-at.invariant.low in
    record {
      low = omega arith;
      none = none_there pattern c.requires.some s c.args.from at n c.loop-at.invariant.none _ (omega arith) found;
    }

pub returns : goal.returns
returns g c =
    let r = reads_all c.args.reader.now.shown in
    let s = bytes_at (g.S.Shelf.texts c.args.reader.now.shelf.now) c.args.reader.now.nodes.now c.args.slot in
    let pattern = c.args.pattern.now in
    let at = c.loop-at.at in
    let stop = c.saturating_sub-stop.result in
    let e = (stands r c.requires.used).len in
    let l = length_bytes r c.args.slot c.requires.used in
    let nowhere = found_nowhere pattern c.requires.some s c.args.from in
    let none : Found s c.args.from pattern None =
    elim c.loop-at-test.branch [
      | else-loop-at-test w ↦ nowhere at c.loop-at.invariant.none (omega (arith, w.loop-at-test.false))
      | then-loop-at-test+in_ok-fill+in_default+else-at-step-stop w ↦
          let n = w.min-n.result in
          let found = searched pattern c.requires.some s at n c.loop-at.window w.fill.new.out (omega arith) w.in_ok-fill.ensures.fills w.fill.auto.out c.finder_of-finder.result c.finder_of-finder.ensures None w.in_default.ensures in
          nowhere stop (none_there pattern c.requires.some s c.args.from at n c.loop-at.invariant.none stop (omega arith) found) (omega arith)
    ] in
    ap Ok (found_first_place pattern s c.args.from None c.requires.some none)
