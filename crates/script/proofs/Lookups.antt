-- A look-up by the entries that hold the names.
use Rattle.std.proofs.Common.{◌≡◌, ℕ, Bool, true, false, cond, List, [], ◌∷◌, map, Some, Option, refl, ap, ◌∙◌}
use Rattle.std.specs.List.{find}
use Rattle.std.specs.Option.{option_map}
use Rattle.std.specs.Str.{bytes_eq}
use Rattle.script.specs.declared.names.Entry.{Entry}
use Rattle.script.specs.CopyVec.{items}
use Rattle.script.specs.Names.{name_of, lookup}

step : (b : Bool) (entry : Entry) (others : Option Entry) → option_map (λ (entry : Entry). entry.version) (cond b (Some entry) others) ≡ cond b (Some entry.version) (option_map (λ (entry : Entry). entry.version) others)
step true entry others = refl
step false entry others = refl

pub lookup_is : (entries : List Entry) (name : List ℕ) → option_map (λ (entry : Entry). entry.version) (find (λ entry. bytes_eq (items entry.name) name) entries) ≡ lookup (map name_of entries) name
lookup_is [] name = refl
lookup_is (entry ∷ entries) name =
    step (bytes_eq (items entry.name) name) entry (find (λ entry. bytes_eq (items entry.name) name) entries)
    ∙ ap (cond (bytes_eq (items entry.name) name) (Some entry.version)) (lookup_is entries name)
