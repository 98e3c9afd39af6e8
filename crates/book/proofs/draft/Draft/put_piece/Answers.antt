use Rattle.book.proofs.draft.Draft.put_piece.Goals as goal

pub returns-clause-steps : goal.returns-clause-steps
returns-clause-steps c texts = rw c.with.ensures.told (c.put_piece.ensures.steps texts)

pub returns-clause-history : goal.returns-clause-history
returns-clause-history c texts = rw c.with.ensures.told (c.put_piece.ensures.history texts)
