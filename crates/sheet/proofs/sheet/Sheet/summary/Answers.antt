use Rattle.std.proofs.Common.{◌+◌, ◌≤◌, ap, arith}
use Rattle.std.proofs.lemmas.Grind.{common_steps}
use Rattle.model.proofs.Histories.{sheet_with_history}
use Rattle.tree.specs.Edits.{size_any}
use Rattle.model.specs.Book.{version}
use Rattle.book.specs.Whole.{view}
use Rattle.book.proofs.Reading.{settled_now}
use Rattle.sheet.proofs.Settled.{covers_version}
use Rattle.sheet.proofs.sheet.Sheet.summary.Goals as goal

pub returns-in_err-root : goal.returns-in_err-root
returns-in_err-root g c = sheet_with_history (grind (arith, common_steps))

pub returns-then-branch : goal.returns-then-branch
returns-then-branch g c = sheet_with_history (grind (arith, common_steps))

pub returns-then-not-covers_root : goal.returns-then-not-covers_root
returns-then-not-covers_root g c =
    let len = c.in_ok-length.ensures.case in
    let covers = covers_version (settled_now c.args.book.now) c.in_ok-root.ensures.case c.args.self.now.covered in
    let ends : c.args.from + c.args.len ≤ size_any (version (view c.args.book.now) c.args.version) = omega (arith, len.is, len.short) in
    sheet_with_history (grind (arith, common_steps))

pub returns-in_err-reader : goal.returns-in_err-reader
returns-in_err-reader g c =
    let len = c.in_ok-length.ensures.case in
    let covers = covers_version (settled_now c.args.book.now) c.in_ok-root.ensures.case c.args.self.now.covered in
    let ends : c.args.from + c.args.len ≤ size_any (version (view c.args.book.now) c.args.version) = omega (arith, len.is, len.short) in
    sheet_with_history (grind (arith, common_steps))

pub root_value-requires-clause-inside : goal.root_value-requires-clause-inside
root_value-requires-clause-inside g c =
    let tree = c.in_ok-root.ensures.case.tree c.in_ok-reader.reader.nodes.now c.in_ok-reader.ensures.1.settled in
    let len = c.in_ok-length.ensures.case in
    omega (arith, ap size_any tree, len.is, len.short)

pub returns : goal.returns
returns g c =
    let settled = c.in_ok-reader.ensures.1.settled in
    let rooted = c.in_ok-root.ensures.case in
    let tree = rooted.tree c.in_ok-reader.reader.nodes.now settled in
    let len = c.in_ok-length.ensures.case in
    let covers = covers_version settled rooted c.args.self.now.covered in
    let ends : c.args.from + c.args.len ≤ size_any (version (view c.args.book.now) c.args.version) = omega (arith, len.is, len.short) in
    let shelf = c.in_ok-reader.ensures.0 in
    sheet_with_history (grind (arith, common_steps))
