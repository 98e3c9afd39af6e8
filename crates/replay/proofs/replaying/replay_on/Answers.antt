use Rattle.std.proofs.Common.{[], ◌∷◌, vec_items, refl, arith}
use Rattle.std.proofs.lemmas.Slice.{pushed}
use Rattle.replay.proofs.Running.{runs_more}
use Rattle.replay.proofs.replaying.replay_on.Goals as goal

pub loop-call-preserved : goal.loop-call-preserved
loop-call-preserved g c =
    runs_more _ _ _ _ _ _ _ _ _ _ _ _ _ _ c.loop-call.call-index _ _ _ c.in_ok-answer.answer (omega arith) c.loop-call.invariant
    c.in_ok-answer.ensures (pushed {was = vec_items c.loop-call.answers} (c.in_ok-answer.answer ∷ []) refl c.in_ok-push.was c.push.ensures.items)
