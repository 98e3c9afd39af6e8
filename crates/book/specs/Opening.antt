-- The contents of a new book.
use Rattle.std.specs.Prelude.{◌≡◌, ℕ, List, [], ◌∷◌, None}
use Rattle.book.specs.declared.contents.Contents.{Contents}
use Rattle.book.specs.Contents.{noted, versions, Orderly}

-- over texts of these lengths: version 0 is empty and kept, and no draft is open
pub record First (c : Contents) (lens : List ℕ) : Type 0 where
  pub orderly : Orderly 0 c
  pub kept : versions c ≡ None ∷ []
  pub draft : c.draft ≡ None
  pub lengths : noted c ≡ lens
