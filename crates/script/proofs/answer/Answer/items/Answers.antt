use Rattle.std.proofs.Common.{[], ◌∷◌, arith}
use Rattle.script.specs.declared.items.Item.TheVariants.{Word, Number}
use Rattle.script.specs.declared.items.Word.TheVariants as word
use Rattle.script.proofs.Printing.{line_short}
use Rattle.script.proofs.answer.Answer.items.Goals as goal

pub returns-in-Kept-clause-short : goal.returns-in-Kept-clause-short
returns-in-Kept-clause-short c =
    let few = line_short (Word word.Kept ∷ Number c.in-Kept.version ∷ Word word.Made ∷ Number c.in-Kept.made ∷ []) (tt, (omega arith, (tt, (omega arith, tt)))) in
    rw c.in-Kept.is (omega arith)

pub returns-in-Some-clause-short : goal.returns-in-Some-clause-short
returns-in-Some-clause-short c =
    let few = line_short (Number c.in-Some.place ∷ []) (omega arith, tt) in
    rw c.in-Found.is (rw c.in-Some.is (omega arith))

pub returns-in-Lines-clause-short : goal.returns-in-Lines-clause-short
returns-in-Lines-clause-short c =
    let few = line_short (Number c.in-Lines.count ∷ []) (omega arith, tt) in
    rw c.in-Lines.is (omega arith)

pub returns-in-Pairs-clause-short : goal.returns-in-Pairs-clause-short
returns-in-Pairs-clause-short c =
    let few = line_short (Number c.in-Pairs.closings ∷ Number c.in-Pairs.openings ∷ []) (omega arith, (omega arith, tt)) in
    rw c.in-Pairs.is (omega arith)

pub returns-in-Shape-clause-short : goal.returns-in-Shape-clause-short
returns-in-Shape-clause-short c =
    let few = line_short (Number c.in-Shape.length ∷ Number c.in-Shape.height ∷ Number c.in-Shape.pieces ∷ []) (omega arith, (omega arith, (omega arith, tt))) in
    rw c.in-Shape.is (omega arith)
