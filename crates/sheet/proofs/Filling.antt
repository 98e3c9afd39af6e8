-- Values that are filled in, slot after slot.
use Rattle.std.proofs.Common.{◌≡◌, ℕ, zero, suc, ◌+◌, ◌-◌, ◌<◌, ◌≤◌, List, length, get_or, set, sym, refl, ap, ◌∙◌, add-one, arith}
use Rattle.book.specs.declared.node.Node.{Node}
use Rattle.book.specs.Records.{no_tree, trees, tree_at}
use Rattle.tree.specs.Tree.{Tree}
use Rattle.model.specs.Book as model
use Rattle.model.specs.Book.{settled}
use Rattle.book.specs.Access.{Settled}
use Rattle.sheet.proofs.Settled.{settled_at}
use Rattle.model.specs.Sheet.{Rule, tree_value, filled}

module _ {V : Type 0} (texts : List (List ℕ)) (rule : Rule V) where
  -- one slot more, of `count` in all
  pub filled_more : (xs : List Node) (values : List V) (s count : ℕ) → s < count →
      filled texts rule (trees xs) (set values s (tree_value texts rule values (tree_at xs s))) (s + 1) (count - (s + 1)) ≡ filled texts rule (trees xs) values s (count - s)
  unfolding tree_at
  filled_more xs values s count h =
      let left : count - s ≡ suc (count - (s + 1)) = omega arith in
      ap (λ i. filled texts rule (trees xs) (set values s (tree_value texts rule values (tree_at xs s))) i (count - (s + 1))) (add-one s)
      ∙ ap (filled texts rule (trees xs) values s) (sym left)

  -- only the trees of the slots that are filled count
  filled_alike : (ts us : List Tree) (values : List V) (s count : ℕ) → ((i : ℕ) → s ≤ i → i < s + count → get_or ts i no_tree ≡ get_or us i no_tree) →
      filled texts rule ts values s count ≡ filled texts rule us values s count
  filled_alike ts us values s zero h = refl
  filled_alike ts us values s (suc count) h =
      ap (λ t. filled texts rule ts (set values s (tree_value texts rule values t)) (suc s) count) (h s (omega arith) (omega arith))
      ∙ filled_alike ts us (set values s (tree_value texts rule values (get_or us s no_tree))) (suc s) count (λ i m l. h i (omega arith) (omega arith))

  -- filled from the trees of the book, or from the settled records
  pub filled_settled : {b : model.Book} {xs : List Node} → Settled b xs → (values : List V) (s : ℕ) →
      filled texts rule b.slots values s (settled b - s) ≡ filled texts rule (trees xs) values s (length xs - s)
  unfolding tree_at
  filled_settled {b} {xs} f values s =
      let long = f.long in
      filled_alike b.slots (trees xs) values s (settled b - s) (λ i m l. settled_at f i (omega arith))
      ∙ ap (λ n. filled texts rule (trees xs) values s (n - s)) (sym long)
