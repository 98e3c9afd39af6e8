use Rattle.std.proofs.Common.{refl}
use Rattle.model.proofs.worked_examples.Goals as goal

pub returns : goal.returns
returns c = record {
  plain_join = (refl, refl);
  double_turn = (refl, refl);
  single_turn = (refl, refl);
  mirrored_turn = (refl, refl);
  split_between = (refl, refl, refl);
  split_piece = (refl, refl, refl);
  brackets = refl;
  ring_frame = refl;
}
