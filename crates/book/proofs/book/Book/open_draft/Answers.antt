use Rattle.book.specs.Records.{store}
use Rattle.book.proofs.EditRows.{begins}
use Rattle.book.proofs.book.Book.open_draft.Goals as goal

pub len_at-requires : goal.len_at-requires
len_at-requires c =
    let b = c.args.self.now in (begins (store b.nodes.now b.places) b.contents c.in-Some.draft c.in-Some.is b.sound).whole.orderly.drafted.0
