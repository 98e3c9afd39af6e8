-- Names: the words that a script gives to kept versions.
use Rattle.std.specs.Prelude.{ℕ, Bool, cond, ◌&&◌, List, [], ◌∷◌, ◌++◌, map, length, Some, None, codes, Option, nat_le, nat_lt}
use Rattle.std.specs.Str.{bytes_eq}
use Rattle.script.specs.declared.names.Entry.{Entry}
use Rattle.script.specs.declared.names.Names.{Names}
use Rattle.script.specs.CopyVec.{items}

-- a name, with the version that it stands for
pub record Named : Type 0 where
  pub letters : List ℕ
  pub version : ℕ

-- the names that a table holds, in the order given
abbrev pub name_of : Entry → Named
name_of entry = record { letters = items entry.name; version = entry.version }

abbrev pub listed : Names → List Named
listed names = map name_of (items names.entries)

-- the version that a name was given to
abbrev pub lookup : List Named → List ℕ → Option ℕ
lookup [] name = None
lookup (named ∷ names) name = cond (bytes_eq named.letters name) (Some named.version) (lookup names name)

-- the version that a name stands for: `empty` is version 0
abbrev pub meaning : List Named → List ℕ → Option ℕ
meaning names name = cond (bytes_eq name (codes "empty")) (Some 0) (lookup names name)

-- at most 63 names, of at most 8 letters
abbrev pub names_most : ℕ
names_most = 63

abbrev pub letters_most : ℕ
letters_most = 8

-- whether a name can be added
abbrev pub takes : List Named → List ℕ → Bool
takes names name = nat_lt (length names) names_most && nat_le (length name) letters_most

-- the names with one more
abbrev pub with_name : List Named → List ℕ → (version : ℕ) → List Named
with_name names name version = cond (takes names name) (names ++ record { letters = name; version = version } ∷ []) names
