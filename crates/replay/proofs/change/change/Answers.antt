use Rattle.replay.specs.Calls.{change_call}
use Rattle.replay.specs.declared.call.BookTold.TheVariants.{Opened, Edited, Kept, Tossed}
use Rattle.replay.proofs.Calling.{mapped, followed, called}
use Rattle.replay.proofs.change.change.Goals as goal

pub returns-in-Open : goal.returns-in-Open
returns-in-Open c texts =
    called texts _ _ change_call (λ _. Opened) _ _ c.in-Open.is (followed Opened _ _ c.and.ensures) (c.open.ensures.steps texts)

pub returns-in-PutPiece : goal.returns-in-PutPiece
returns-in-PutPiece c texts =
    called texts _ _ change_call Edited _ _ c.in-PutPiece.is (mapped Edited _ _ c.map.ensures.cases) (c.put_piece.ensures.steps texts)

pub returns-in-PutVersion : goal.returns-in-PutVersion
returns-in-PutVersion c texts =
    called texts _ _ change_call Edited _ _ c.in-PutVersion.is (mapped Edited _ _ c.map-in-PutVersion.ensures.cases) (c.put_version.ensures.steps texts)

pub returns-in-Cut : goal.returns-in-Cut
returns-in-Cut c texts =
    called texts _ _ change_call Edited _ _ c.in-Cut.is (mapped Edited _ _ c.map-in-Cut.ensures.cases) (c.cut.ensures.steps texts)

pub returns-in-Crop : goal.returns-in-Crop
returns-in-Crop c texts =
    called texts _ _ change_call Edited _ _ c.in-Crop.is (mapped Edited _ _ c.map-in-Crop.ensures.cases) (c.crop.ensures.steps texts)

pub returns-in-Keep : goal.returns-in-Keep
returns-in-Keep c texts =
    called texts _ _ change_call Kept _ _ c.in-Keep.is (mapped Kept _ _ c.map-in-Keep.ensures.cases) (c.keep.ensures.steps texts)

pub returns-in-Toss : goal.returns-in-Toss
returns-in-Toss c texts =
    called texts _ _ change_call (λ _. Tossed) _ _ c.in-Toss.is (followed Tossed _ _ c.and-in-Toss.ensures) (c.toss.ensures.steps texts)
