-- A list, by what stands first in it.
use Rattle.std.specs.Prelude.{List, [], ◌∷◌, Some, None, Option}

-- the list that begins with what was found and goes on as `rest` says; an empty one where nothing was found
abbrev pub begun : {X : Type 0} → Option X → (rest : X → List X) → List X
begun None rest = []
begun (Some x) rest = x ∷ rest x
