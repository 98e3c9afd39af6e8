use Rattle.std.proofs.Common.{rules, tests}
use Rattle.std.proofs.lemmas.Iterator.{YieldsList-from_slice}
use Rattle.std.proofs.lemmas.Iterator.Search.{position_from_yields_List}
use Rattle.script.specs.Lines.{ends_line}
use Rattle.script.proofs.Firsts.{or_length}
use Rattle.script.proofs.lines.len_to_end.Goals as goal

pub returns : goal.returns
returns c =
    let p = or_length ends_line c.args.rest.now _ _ c.unwrap_or.ensures
    (position_from_yields_List ends_line _ _ _ c.position.ensures.ran (YieldsList-from_slice c.args.rest.now cc) (λ x b q k. search (rules, tests))) in
    record { place = p.0; bound = p.1 }
