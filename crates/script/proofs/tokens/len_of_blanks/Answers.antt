use Rattle.std.proofs.Common.{not, rules, tests}
use Rattle.std.proofs.lemmas.Iterator.{YieldsList-from_slice}
use Rattle.std.proofs.lemmas.Iterator.Search.{position_from_yields_List}
use Rattle.script.specs.Tokens.{is_space}
use Rattle.script.proofs.Firsts.{or_length}
use Rattle.script.proofs.tokens.len_of_blanks.Goals as goal

pub returns : goal.returns
returns c =
    let p = or_length (λ byte. not (is_space byte)) c.args.rest.now _ _ c.unwrap_or.ensures
    (position_from_yields_List (λ byte. not (is_space byte)) _ _ _ c.position.ensures.ran (YieldsList-from_slice c.args.rest.now cc) (λ x b q k. search (rules, tests))) in
    record { place = p.0; bound = p.1 }
