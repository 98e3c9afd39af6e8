-- Roots, which are missing for the empty string, and what a change of the tree at a root asks and answers.
use Rattle.std.specs.Prelude.{◌≡◌, ℕ, ◌+◌, ◌<◌, ◌≤◌, List, length, Some, None, Option, Result, MatchResult}
use Rattle.shelf.specs.Texts.{limit}
use Rattle.tree.specs.Tree as trees
use Rattle.tree.specs.Edits as rules
use Rattle.tree.specs.Edits.{size_any, put_piece, put_any, cut, crop}
use Rattle.book.specs.declared.node.Built.{Built}
use Rattle.book.specs.declared.node.Change.{Change}
use Rattle.book.specs.declared.node.Change.TheVariants.{Piece, Tree, Cut, Crop}
use Rattle.book.specs.declared.node.Node.{Node}
use Rattle.book.specs.declared.node.NoRoom.{NoRoom}
use Rattle.book.specs.Records.{tree_at, Store, in_use, Ready}
use Rattle.book.specs.Building.{Wrote, Lacks}

-- a root is a slot in use, or missing
abbrev pub Root : (used : ℕ) → Option ℕ → Type 0
Root used None = Unit {0}
Root used (Some i) = i < used

-- the tree at a root, where `xs` are the records in use
abbrev pub any_at : List Node → Option ℕ → Option trees.Tree
any_at xs None = None
any_at xs (Some i) = Some (tree_at xs i)

abbrev pub any_in : Store → Option ℕ → Option trees.Tree
any_in s root = any_at (in_use s) root

-- two roots, whose trees are together not too long
pub record Two (s : Store) (l r : Option ℕ) : Type 0 where
  pub ready : Ready s
  pub left : Root s.used l
  pub right : Root s.used r
  pub short : size_any (any_in s l) + size_any (any_in s r) ≤ limit

-- what the rules make was made
pub record Has (s s' : Store) (rule : rules.Made) (q : Built (Option ℕ)) : Type 0 where
  pub wrote : Wrote s s' rule.new
  pub root : Root s'.used q.value
  pub tree : any_in s' q.value ≡ rule.tree
  pub made : q.made ≡ length rule.new

pub record HasHalves (s s' : Store) (rule : rules.Halves) (q : Built (Option ℕ × Option ℕ)) : Type 0 where
  pub wrote : Wrote s s' rule.new
  pub left_root : Root s'.used q.value.0
  pub right_root : Root s'.used q.value.1
  pub left : any_in s' q.value.0 ≡ rule.left
  pub right : any_in s' q.value.1 ≡ rule.right
  pub made : q.made ≡ length rule.new

-- what the rules make, or no room for it
pub record Gets (s s' : Store) (rule : rules.Made) (r : Result (Built (Option ℕ)) NoRoom) : Type 0 where
  pub case : MatchResult r (λ q. Has s s' rule q) (λ _. Lacks s s' (length rule.new))

pub record Halved (s s' : Store) (rule : rules.Halves) (r : Result (Built (Option ℕ × Option ℕ)) NoRoom) : Type 0 where
  pub case : MatchResult r (λ q. HasHalves s s' rule q) (λ _. Lacks s s' (length rule.new))

-- the same, where no slot stays taken if there is no room
pub record Changes (s s' : Store) (rule : rules.Made) (r : Result (Built (Option ℕ)) NoRoom) : Type 0 where
  pub case : MatchResult r (λ q. Has s s' rule q) (λ _. Lacks s s' (length rule.new) × (s'.used ≡ s.used))

-- what the rules make of a change of the tree at a root
abbrev pub changed : Store → Option ℕ → Change → rules.Made
changed s root (Piece place text start len) = put_piece s.used (any_in s root) place text start len
changed s root (Tree place other) = put_any s.used (any_in s root) place (any_in s other)
changed s root (Cut from len) = cut s.used (any_in s root) from len
changed s root (Crop from len) = crop s.used (any_in s root) from len

-- what is put in is a piece of a text, or a tree, and the result is not too long
abbrev pub Addable : Store → Option ℕ → Change → Type 0
Addable s root (Piece place text start len) = (0 < len) × (start + len ≤ limit) × (size_any (any_in s root) + len ≤ limit)
Addable s root (Tree place other) = Root s.used other × (size_any (any_in s root) + size_any (any_in s other) ≤ limit)
Addable s root (Cut from len) = Unit {0}
Addable s root (Crop from len) = Unit {0}

pub record Allowed (s : Store) (t : Option ℕ) (change : Change) : Type 0 where
  pub ready : Ready s
  pub root : Root s.used t
  pub addable : Addable s t change
