-- What a reader knows of the record in a slot and of its tree.
use Rattle.std.proofs.Common.{◌≡◌, ℕ, ◌+◌, ◌<◌, ◌≤◌, true, List, map, length, get_or, take, Decides, sym, refl, ap, subst, arith}
use Rattle.std.specs.List.{AllByRecursion}
use Rattle.std.proofs.ByRecursion.{All-get_or, All-weaker, Decides-by_and}
use Rattle.std.proofs.lemmas.Bool.Decides.{Decides-and}
use Rattle.shelf.specs.Texts.{limit}
use Rattle.tree.specs.Tree.{piece, node, slot, size, Within}
use Rattle.model.specs.Book as model
use Rattle.model.specs.Book.{same}
use Rattle.model.proofs.Tables.{decides_same}
use Rattle.book.specs.declared.book.Book.{Book}
use Rattle.book.specs.declared.node.Node.{Node}
use Rattle.book.specs.declared.node.Shape.{Shape}
use Rattle.book.specs.declared.node.Shape.TheVariants.{Piece, Fork}
use Rattle.book.specs.Records.{no_tree, no_node, trees, tree_at, Below, Stands, Sound, store}
use Rattle.book.specs.Contents.{settled, Inside}
use Rattle.book.specs.Whole.{view}
use Rattle.book.specs.Tests.{all_stand, inside, all_inside}
use Rattle.book.specs.Access.{Settled}
use Rattle.book.specs.Reader.{Readable, readable}
use Rattle.book.proofs.Grown.{Reads, reads, length_trees}
use Rattle.book.proofs.Insides.{within_from}
use Rattle.book.proofs.Settled.{settled_records}
use Rattle.book.proofs.Tested.{decides_sound, decides_inside, tested}

-- the test decides that the records are sound and that their pieces lie inside the lengths of the texts
decides_readable : (texts : List (List ℕ)) (xs : List Node) → Decides (readable texts xs) (Sound xs × AllByRecursion (Inside (map length texts)) (trees xs))
unfolding readable
decides_readable texts xs =
    let lens = map length texts in
    Decides-and (all_stand xs (length xs)) (all_inside lens (trees xs)) (decides_sound xs)
    (Decides-by_and (inside lens) (Inside lens) (all_inside lens) (decides_inside lens) refl (λ _ _. refl) (trees xs))

-- the settled records are readable with texts of the noted lengths
pub settled_readable : {b : model.Book} {xs : List Node} → Settled b xs → (texts : List (List ℕ)) → same (map length texts) b.lengths ≡ true → readable texts xs ≡ true
settled_readable {b} {xs} s texts e =
    let noted = (decides_same (map length texts) b.lengths).0 e in
    (decides_readable texts xs).1 (s.sound, subst (λ (l : List ℕ). AllByRecursion (Inside l) (trees xs)) (sym noted) s.inside)

-- the settled records of a book
pub settled_now : (b : Book) → Settled (view b) (take (settled b.places.used b.contents.draft) b.nodes.now)
settled_now b = settled_records (tested (store b.nodes.now b.places) b.contents b.sound)

pub reads_all : {texts : List (List ℕ)} {xs : List Node} → readable texts xs ≡ true → Readable texts xs
reads_all {texts} {xs} e =
    let p = (decides_readable texts xs).0 e in
    record { sound = p.0; within = All-weaker (Inside (map length texts)) (Within texts) (within_from texts) (trees xs) p.1 }

abbrev record_at : List Node → ℕ → Node
record_at xs s = get_or xs s no_node

slot_of : (xs : List Node) (s m : ℕ) (shape : Shape) → Reads xs s m shape → slot (tree_at xs s) ≡ s
slot_of xs s m (Piece k i) e = ap slot e
slot_of xs s m (Fork a b) e = ap slot e

-- a piece of text k from place i on
pub record Leaf (texts : List (List ℕ)) (xs : List Node) (s k i : ℕ) : Type 0 where
  pub is : tree_at xs s ≡ piece s k i (record_at xs s).len
  pub within : Within texts (piece s k i (record_at xs s).len)
  pub size_is : size (tree_at xs s) ≡ (record_at xs s).len

-- a node whose sides are at the slots a and b
pub record NodeAt (xs : List Node) (s a b : ℕ) : Type 0 where
  pub is : tree_at xs s ≡ node s (tree_at xs a) (tree_at xs b)
  pub left_below : a < s
  pub right_below : b < s
  pub left_slot : slot (tree_at xs a) ≡ a
  pub right_slot : slot (tree_at xs b) ≡ b
  pub left_size : (record_at xs a).len ≡ size (tree_at xs a)
  pub size_is : size (tree_at xs s) ≡ size (tree_at xs a) + size (tree_at xs b)
  pub len_is : (record_at xs s).len ≡ size (tree_at xs s)
  pub short : size (tree_at xs s) ≤ limit

pub stands_in : (xs : List Node) → Sound xs → (s : ℕ) → s < length xs → Stands s (record_at xs s) (tree_at xs s)
unfolding Sound
stands_in xs sound s h = sound s h

-- the tree at a slot has its number
pub slot_at : (xs : List Node) → Sound xs → (s : ℕ) → s < length xs → slot (tree_at xs s) ≡ s
slot_at xs sound s h = slot_of xs s (record_at xs s).len (record_at xs s).shape (reads xs s h (stands_in xs sound s h).below)

module _ {texts : List (List ℕ)} {xs : List Node} (r : Readable texts xs) {s : ℕ} (h : s < length xs) where
  pub stands : Stands s (record_at xs s) (tree_at xs s)
  stands = stands_in xs r.sound s h

  read : Reads xs s (record_at xs s).len (record_at xs s).shape
  read = reads xs s h stands.below

  pub within_at : Within texts (tree_at xs s)
  unfolding tree_at
  within_at = All-get_or (Within texts) (trees xs) s no_tree (rw length_trees h) r.within

  pub leaf_at : {k i : ℕ} → (record_at xs s).shape ≡ Piece k i → Leaf texts xs s k i
  leaf_at {k} {i} f =
      let is : tree_at xs s ≡ piece s k i (record_at xs s).len = subst (Reads xs s (record_at xs s).len) f read in
      record { is = is; within = subst (Within texts) is within_at; size_is = ap size is }

  pub node_at : {a b : ℕ} → (record_at xs s).shape ≡ Fork a b → NodeAt xs s a b
  node_at {a} {b} f =
      let below : Below s (Fork a b) = subst (Below s) f stands.below in
      let is : tree_at xs s ≡ node s (tree_at xs a) (tree_at xs b) = subst (Reads xs s (record_at xs s).len) f read in
      let left : a < length xs = omega (arith, below.0) in
      let right : b < length xs = omega (arith, below.1) in
      record {
        is = is;
        left_below = below.0;
        right_below = below.1;
        left_slot = slot_at xs r.sound a left;
        right_slot = slot_at xs r.sound b right;
        left_size = (stands_in xs r.sound a left).len;
        size_is = ap size is;
        len_is = stands.len;
        short = stands.short;
      }
