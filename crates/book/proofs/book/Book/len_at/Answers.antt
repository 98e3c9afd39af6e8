use Rattle.std.proofs.Common.{sym}
use Rattle.book.specs.Records.{store}
use Rattle.book.proofs.Stores.{length_in_use}
use Rattle.book.proofs.Tested.{tested}
use Rattle.book.proofs.book.Book.len_at.Goals as goal

pub slice_bounds-tree_len-end : goal.slice_bounds-tree_len-end
slice_bounds-tree_len-end c =
    let b = c.args.self.now in sym (length_in_use (tested (store b.nodes.now b.places) b.contents b.sound).ready)

pub tree_len-requires : goal.tree_len-requires
tree_len-requires c =
    let b = c.args.self.now in
    let w = tested (store b.nodes.now b.places) b.contents b.sound in
    record { sound = w.ready.sound; root = rw (length_in_use w.ready) c.requires }
