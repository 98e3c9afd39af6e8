-- The forms of a line.
use Rattle.std.specs.Prelude.{ℕ, List, [], ◌∷◌, codes, Option}
use Rattle.std.specs.List.{find}
use Rattle.std.specs.Str.{bytes_eq}
use Rattle.script.specs.declared.forms.Kind.{Kind}
use Rattle.script.specs.declared.forms.Kind.TheVariants.{Known, Fresh, Number, Quoted}
use Rattle.script.specs.declared.forms.Verb.{Verb}
use Rattle.script.specs.declared.forms.Verb.TheVariants.{Open, Keep, Shape, Text, Say, Put, Cut, Crop, Toss, Show, Lines, Pairs, Find}

-- the form of a line: its first word, and the kinds of the tokens behind it
pub record Form : Type 0 where
  pub word : List ℕ
  pub kinds : List Kind

abbrev pub form : Verb → Form
form Open = record { word = codes "open"; kinds = Known ∷ [] }
form Keep = record { word = codes "keep"; kinds = Fresh ∷ [] }
form Shape = record { word = codes "shape"; kinds = Known ∷ [] }
form Text = record { word = codes "text"; kinds = Number ∷ Number ∷ Number ∷ Number ∷ [] }
form Say = record { word = codes "say"; kinds = Number ∷ Quoted ∷ [] }
form Put = record { word = codes "put"; kinds = Number ∷ Known ∷ [] }
form Cut = record { word = codes "cut"; kinds = Number ∷ Number ∷ [] }
form Crop = record { word = codes "crop"; kinds = Number ∷ Number ∷ [] }
form Toss = record { word = codes "toss"; kinds = [] }
form Show = record { word = codes "show"; kinds = Known ∷ Number ∷ Number ∷ [] }
form Lines = record { word = codes "lines"; kinds = Known ∷ Number ∷ Number ∷ [] }
form Pairs = record { word = codes "pairs"; kinds = Known ∷ Number ∷ Number ∷ [] }
form Find = record { word = codes "find"; kinds = Known ∷ Number ∷ Quoted ∷ [] }

-- all verbs
abbrev pub verbs : List Verb
verbs = Open ∷ Keep ∷ Shape ∷ Text ∷ Say ∷ Put ∷ Cut ∷ Crop ∷ Toss ∷ Show ∷ Lines ∷ Pairs ∷ Find ∷ []

-- the first of some verbs whose word it is
abbrev pub verb_of : List Verb → List ℕ → Option Verb
verb_of verbs word = find (λ verb. bytes_eq word (form verb).word) verbs
