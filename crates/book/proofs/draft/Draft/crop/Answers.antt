use Rattle.book.proofs.draft.Draft.crop.Goals as goal

pub returns-clause-steps : goal.returns-clause-steps
returns-clause-steps c texts = rw c.with.ensures.told (c.crop.ensures.steps texts)

pub returns-clause-history : goal.returns-clause-history
returns-clause-history c texts = rw c.with.ensures.told (c.crop.ensures.history texts)
