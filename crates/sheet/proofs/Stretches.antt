-- The value of a stretch that is a whole tree.
use Rattle.std.proofs.Common.{◌≡◌, ℕ, ◌+◌, ◌<◌, ◌≤◌, eqb, List, length, get_or, ap, ◌∙◌, arith}
use Rattle.std.proofs.lemmas.Bool.{eq-eqb, and_from, cond-true}
use Rattle.tree.specs.Tree.{Tree, piece, node, slot, size}
use Rattle.book.specs.declared.node.Node.{Node}
use Rattle.book.specs.Records.{no_node, tree_at, Sound}
use Rattle.model.specs.Sheet.{Rule, value_at, stretch_value}
use Rattle.book.proofs.Reading.{stands_in, slot_at}

module _ {V : Type 0} (texts : List (List ℕ)) (rule : Rule V) (values : List V) where
  -- a tree that lies in the stretch whole
  whole_tree : (t : Tree) (from len : ℕ) → from ≡ 0 → len ≡ size t → stretch_value texts rule values t from len ≡ value_at texts rule values (slot t)
  whole_tree (piece s k i m) from len z e = cond-true _ _ _ (and_from (eqb from 0) (eqb len m) (eq-eqb from 0 z) (eq-eqb len m e))
  whole_tree (node s l r) from len z e =
      cond-true _ _ _ (and_from (eqb from 0) (eqb len (size l + size r)) (eq-eqb from 0 z) (eq-eqb len (size l + size r) e))

  pub whole : (xs : List Node) → Sound xs → (s : ℕ) → s < length xs → (from len : ℕ) → len ≡ (get_or xs s no_node).len → from + len ≤ size (tree_at xs s) →
      stretch_value texts rule values (tree_at xs s) from len ≡ value_at texts rule values s
  whole xs ok s low from len e h =
      let n = (stands_in xs ok s low).len in
      whole_tree (tree_at xs s) from len (omega arith) (omega arith) ∙ ap (value_at texts rule values) (slot_at xs ok s low)
