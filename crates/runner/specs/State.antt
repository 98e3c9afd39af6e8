-- What the lines of a script are run on.
use Rattle.std.specs.Prelude.{ℕ, List}
use Rattle.rule.specs.declared.brackets.Unmatched.{Unmatched}
use Rattle.model.specs.Book.{Book}
use Rattle.model.specs.Sheet.{Sheet}
use Rattle.script.specs.Names.{Named}

-- A book, its sheets of line ends and of brackets, and the names of its versions.
pub record State : Type 0 where
  pub book : Book
  pub lines : Sheet ℕ
  pub pairs : Sheet Unmatched
  pub names : List Named
