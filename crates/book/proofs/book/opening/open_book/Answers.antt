use Rattle.shelf.specs.Texts.{limit}
use Rattle.book.proofs.Noting.{short_texts, new_consistent, new_shown}
use Rattle.book.proofs.book.opening.open_book.Goals as goal

pub first_contents-requires-clause-short : goal.first_contents-requires-clause-short
first_contents-requires-clause-short g c =
    rw c.note_lengths-lens.ensures (short_texts limit (g.S.Shelf.texts c.args.shelf.now) (g.S.Shelf.fit c.args.shelf.now).short)

pub invariant_of-result : goal.invariant_of-result
invariant_of-result g c = record { sound = new_consistent c.args.nodes.now c.first_contents.result _ c.first_contents.ensures }

pub returns : goal.returns
returns g c =
    new_shown c.args.nodes.now c.first_contents.result (g.S.Shelf.texts c.args.shelf.now) _ c.first_contents.ensures c.note_lengths-lens.ensures
