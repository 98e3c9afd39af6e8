use Rattle.std.proofs.Common.{◌≡◌, true, ◌&&◌, sym, ap, ◌∙◌, rules, tests}
use Rattle.std.proofs.lemmas.Iterator.{YieldsList-from_slice}
use Rattle.std.proofs.lemmas.Iterator.Search.{all_from_yields_List}
use Rattle.script.specs.Shapes.{letter, counted, all_of}
use Rattle.script.proofs.shapes.is_word.Goals as goal

pub returns-then-contains : goal.returns-then-contains
returns-then-contains c =
    let token = c.args.token.now in
    let few : counted 1 8 token ≡ true = search (rules, tests) in
    all_from_yields_List letter _ _ _ c.all.ensures.ran (YieldsList-from_slice token cc) (λ x b q k. search (rules, tests)) ∙ ap (λ t. t && all_of letter token) (sym few)
