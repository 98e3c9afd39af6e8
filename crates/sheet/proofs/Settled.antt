-- The settled records of a book whose texts a shelf shows.
use Rattle.std.proofs.Common.{◌≡◌, ℕ, ◌<◌, ltb, List, length, get_or, Some, None, Option, sym, refl, ap, ◌∙◌, subst, arith}
use Rattle.std.proofs.lemmas.List.{get_or-take}
use Rattle.std.proofs.lemmas.Bool.{lt-ltb, ltb-true}
use Rattle.std.proofs.lemmas.Bool.Decides.{same_from_decides}
use Rattle.tree.specs.Tree.{Tree, piece, node, slot}
use Rattle.tree.proofs.Heap.{stored_at}
use Rattle.model.specs.Book as model
use Rattle.model.specs.Book.{settled, version}
use Rattle.model.specs.Sheet.{covers}
use Rattle.model.specs.Table.{CoveredTree}
use Rattle.model.proofs.Slots.{covered_by_root}
use Rattle.model.proofs.Tables.{decides_covers}
use Rattle.book.specs.declared.node.Node.{Node}
use Rattle.book.specs.Changing.{Root, any_at}
use Rattle.book.specs.Records.{no_tree, trees, tree_at, Sound}
use Rattle.book.specs.Access.{Settled, Rooted}
use Rattle.book.specs.Tests.{rooted}
use Rattle.book.proofs.Grown.{length_trees}
use Rattle.book.proofs.Insides.{sound_grows}
use Rattle.book.proofs.Reading.{slot_at}

-- a root has the last slot of its tree
covers_root : (xs : List Node) → Sound xs → (n : ℕ) (root : Option ℕ) → Root (length xs) root → covers n (any_at xs root) ≡ rooted n root
unfolding tree_at
covers_root xs ok n None h = refl
covers_root xs ok n (Some i) h =
    let grows = sound_grows xs ok in
    let e : slot (tree_at xs i) ≡ i = slot_at xs ok i h in
    let stored = stored_at (trees xs) grows i no_tree (rw length_trees h) in
    same_from_decides (covers n (Some (tree_at xs i))) (ltb i n) (decides_covers n (Some (tree_at xs i))) (
      λ x. let l = ltb-true i n x in covered_by_root (trees xs) n (tree_at xs i) grows stored (omega arith),
      λ x. let l = own (tree_at xs i) x in lt-ltb i n (omega arith),
    )
  where
    own : (t : Tree) → CoveredTree n t → slot t < n
    own (piece s k j m) c = c
    own (node s l r) c = c.0

module _ {b : model.Book} {xs : List Node} (f : Settled b xs) where
  -- a settled slot has the same tree in the book
  pub settled_at : (i : ℕ) → i < settled b → get_or b.slots i no_tree ≡ tree_at xs i
  unfolding tree_at
  settled_at i h = sym (ap (λ ts. get_or ts i no_tree) f.trees_are ∙ get_or-take (settled b) b.slots i no_tree h)

-- a sheet covers a kept version where it covers its root
pub covers_version : {b : model.Book} {xs : List Node} → Settled b xs → {v : ℕ} {root : Option ℕ} → Rooted b v root → (n : ℕ) → covers n (version b v) ≡ rooted n root
covers_version {b} {xs} f {v} {root} r n = ap (covers n) (r.tree xs f) ∙ covers_root xs f.sound n root (subst (λ k. Root k root) (sym f.long) r.held)
