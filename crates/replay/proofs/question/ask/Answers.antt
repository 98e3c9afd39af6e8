use Rattle.std.proofs.Common.{map, length}
use Rattle.replay.specs.Calls.{question_call}
use Rattle.replay.specs.declared.call.BookTold.TheVariants.{Found, Shaped}
use Rattle.replay.proofs.Calling.{mapped, called}
use Rattle.replay.proofs.question.ask.Goals as goal

pub returns-in-Find : goal.returns-in-Find
returns-in-Find g c =
    let texts = g.S.Shelf.texts c.args.shelf.now in
    called texts _ _ (question_call c.args.patterns.now (map length texts)) Found _ _ c.in-Find.is
    (mapped Found _ _ c.map.ensures.cases) (rw c.part.ensures at c.find.ensures.steps)

pub returns-in-Shape : goal.returns-in-Shape
returns-in-Shape g c =
    let texts = g.S.Shelf.texts c.args.shelf.now in
    called texts _ _ (question_call c.args.patterns.now (map length texts)) Shaped _ _ c.in-Shape.is
    (mapped Shaped _ _ c.map-in-Shape.ensures.cases) (c.shape.ensures.steps texts)
