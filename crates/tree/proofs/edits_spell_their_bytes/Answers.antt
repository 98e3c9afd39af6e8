use Rattle.tree.proofs.Facts.{edits_spell}
use Rattle.tree.proofs.edits_spell_their_bytes.Goals as goal

pub returns : goal.returns
returns c = edits_spell
