use Rattle.std.proofs.Common.{◌<◌, length, subst}
use Rattle.book.specs.Records.{Sound}
use Rattle.book.specs.Changing.{Root}
use Rattle.book.proofs.size.tree_len.Goals as goal

pub returns-in-Some : goal.returns-in-Some
unfolding Sound
returns-in-Some c =
    let h : c.in-Some.slot < length c.args.nodes.now = subst (Root (length c.args.nodes.now)) c.in-Some.is c.requires.root in
    let k = c.requires.sound c.in-Some.slot h in
    record { is = rw c.in-Some.is k.len; short = rw k.len k.short }
