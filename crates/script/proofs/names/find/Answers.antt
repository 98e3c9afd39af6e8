use Rattle.std.proofs.Common.{◌≡◌, Bor, ap, ◌∙◌, rules, tests}
use Rattle.std.specs.Option.{option_map}
use Rattle.script.specs.declared.names.Entry.{Entry}
use Rattle.std.specs.Str.{bytes_eq}
use Rattle.std.proofs.lemmas.Iterator.{YieldsList-from_slice}
use Rattle.std.proofs.lemmas.Iterator.Search.{find_from_yields_List}
use Rattle.script.specs.CopyVec.{items}
use Rattle.script.proofs.Lookups.{lookup_is}
use Rattle.script.proofs.names.find.Goals as goal

pub returns : goal.returns
returns c =
    let name = c.args.name.now in
    let found = find_from_yields_List (λ entry. bytes_eq (items entry.name) name) _ _ _ c.find.ensures.ran (YieldsList-from_slice c.args.entries.now cc) (λ x b q k. search (rules, tests)) in
    let version : c.map.result ≡ option_map (λ (entry : Entry). entry.version) (option_map (λ (entry : Bor Entry). entry.now) c.find.result) = search rules in
    version ∙ ap (option_map (λ (entry : Entry). entry.version)) found ∙ lookup_is c.args.entries.now name
