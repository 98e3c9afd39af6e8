use Rattle.book.specs.Records.{store}
use Rattle.book.proofs.Tested.{tested}
use Rattle.book.proofs.Settled.{root_answer}
use Rattle.book.proofs.book.Book.root.Goals as goal

pub returns : goal.returns
returns c =
    let b = c.args.self.now in
    root_answer (tested (store b.nodes.now b.places) b.contents b.sound) c.args.version c.root.result c.root.ensures
