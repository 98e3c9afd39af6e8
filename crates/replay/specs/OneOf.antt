-- The texts of one of two shelves.
use Rattle.std.specs.Prelude.{ℕ, List}
use Rattle.shelf.specs.Texts.{Fit}
use Rattle.replay.specs.declared.one_of.OneOf.{OneOf}

module _ {S T : Type 0} (s_texts : S → List (List ℕ)) (t_texts : T → List (List ℕ)) where
  abbrev pub one_texts : OneOf S T → List (List ℕ)
  one_texts (OneOf.First shelf) = s_texts shelf.now
  one_texts (OneOf.Second shelf) = t_texts shelf.now

  pub one_fit : ((s : S) → Fit (s_texts s)) → ((t : T) → Fit (t_texts t)) → (shelf : OneOf S T) → Fit (one_texts shelf)
  one_fit s_fit t_fit (OneOf.First shelf) = s_fit shelf.now
  one_fit s_fit t_fit (OneOf.Second shelf) = t_fit shelf.now
