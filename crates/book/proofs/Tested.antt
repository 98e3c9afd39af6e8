-- The test of a consistent book decides what it tests.
use Rattle.std.proofs.Common.{◌≡◌, ℕ, ◌+◌, ◌≤◌, true, eqb, ltb, leb, List, length, get_or, Some, None, Decides, Option, refl}
use Rattle.std.proofs.lemmas.Bool.{leb-true, le-leb}
use Rattle.std.proofs.lemmas.Bool.Decides.{Decides-and, Decides-ltb, Decides-eqb, Decides-like, Decides-below_and}
use Rattle.std.proofs.ByRecursion.{Decides-by_and}
use Rattle.shelf.specs.Texts.{limit, most_texts}
use Rattle.tree.specs.Tree.{Tree, piece, node, height, size, pieces, Balanced}
use Rattle.model.specs.Rows.{most_slots, most_versions}
use Rattle.book.specs.declared.contents.Contents.{Contents}
use Rattle.book.specs.declared.contents.OpenDraft.{OpenDraft}
use Rattle.book.specs.declared.node.Node.{Node}
use Rattle.book.specs.declared.node.Shape.{Shape}
use Rattle.book.specs.declared.node.Shape.TheVariants.{Piece, Fork}
use Rattle.book.specs.Records.{no_node, trees, tree_at, Filled, Below, Stands, Sound, Store, in_use}
use Rattle.book.specs.Changing.{Root}
use Rattle.book.specs.Contents.{noted, versions, settled, Drafted, Orderly, Inside, Consistent}
use Rattle.book.specs.Tests.{balanced, filled, below, stands, all_stand, rooted, all_rooted, drafted, all_short, orderly, inside, all_inside, consistent}

decides_leb : (a b : ℕ) → Decides (leb a b) (a ≤ b)
decides_leb a b = (leb-true a b, le-leb a b)

decides_true : Decides true (Unit {0})
decides_true = (λ _. tt, λ _. refl)

decides_balanced : (t : Tree) → Decides (balanced t) (Balanced t)
decides_balanced (piece s k i m) = decides_true
decides_balanced (node s l r) =
    Decides-like (balanced (node s l r)) (λ p. (p.0, p.1.0, p.1.1.0, p.1.1.1)) (λ p. (p.0, (p.1, (p.2, p.3))))
    (Decides-and (leb (height l) (height r + 1)) _ (decides_leb (height l) (height r + 1))
    (Decides-and (leb (height r) (height l + 1)) _ (decides_leb (height r) (height l + 1))
    (Decides-and (balanced l) (balanced r) (decides_balanced l) (decides_balanced r))))

decides_filled : (t : Tree) → Decides (filled t) (Filled t)
decides_filled (piece s k i m) = Decides-and (ltb 0 m) (leb (i + m) limit) (Decides-ltb 0 m) (decides_leb (i + m) limit)
decides_filled (node s l r) = Decides-and (filled l) (filled r) (decides_filled l) (decides_filled r)

decides_below : (i : ℕ) (x : Shape) → Decides (below i x) (Below i x)
decides_below i (Piece k s) = decides_true
decides_below i (Fork l r) = Decides-and (ltb l i) (ltb r i) (Decides-ltb l i) (Decides-ltb r i)

decides_stands : (i : ℕ) (x : Node) (t : Tree) → Decides (stands i x t) (Stands i x t)
decides_stands i x t =
    Decides-like (stands i x t)
    (λ p. record {
      below = p.0;
      len = p.1.0;
      height = p.1.1.0;
      pieces = p.1.1.1.0;
      balanced = p.1.1.1.1.0;
      filled = p.1.1.1.1.1.0;
      short = p.1.1.1.1.1.1;
    })
    (λ k. (k.below, (k.len, (k.height, (k.pieces, (k.balanced, (k.filled, k.short)))))))
    (Decides-and (below i x.shape) _ (decides_below i x.shape)
    (Decides-and (eqb x.len (size t)) _ (Decides-eqb x.len (size t))
    (Decides-and (eqb x.height (height t)) _ (Decides-eqb x.height (height t))
    (Decides-and (eqb x.pieces (pieces t)) _ (Decides-eqb x.pieces (pieces t))
    (Decides-and (balanced t) _ (decides_balanced t) (Decides-and (filled t) (leb (size t) limit) (decides_filled t) (decides_leb (size t) limit)))))))

pub decides_sound : (xs : List Node) → Decides (all_stand xs (length xs)) (Sound xs)
unfolding Sound all_stand
decides_sound xs =
    Decides-below_and (λ i. stands i (get_or xs i no_node) (tree_at xs i)) (λ i. Stands i (get_or xs i no_node) (tree_at xs i)) (all_stand xs)
    (λ i. decides_stands i (get_or xs i no_node) (tree_at xs i)) refl (λ _. refl) (length xs)

decides_rooted : (u : ℕ) (o : Option ℕ) → Decides (rooted u o) (Root u o)
decides_rooted u None = decides_true
decides_rooted u (Some i) = Decides-ltb i u

decides_drafted : (u : ℕ) (o : Option OpenDraft) → Decides (drafted u o) (Drafted u o)
decides_drafted u None = decides_true
decides_drafted u (Some d) = Decides-and (rooted u d.root) (leb d.base u) (decides_rooted u d.root) (decides_leb d.base u)

decides_orderly : (u : ℕ) (c : Contents) → Decides (orderly u c) (Orderly u c)
decides_orderly u c =
    Decides-like (orderly u c)
    (λ p. record {
      few = p.0;
      short = p.1.0;
      most_kept = p.1.1.0;
      drafted = p.1.1.1.0;
      rooted = p.1.1.1.1;
    })
    (λ o. (o.few, (o.short, (o.most_kept, (o.drafted, o.rooted)))))
    (Decides-and (leb (length (noted c)) most_texts) _ (decides_leb (length (noted c)) most_texts)
    (Decides-and (all_short (noted c)) _ (Decides-by_and (λ n. leb n limit) (λ n. n ≤ limit) all_short (λ n. decides_leb n limit) refl (λ _ _. refl) (noted c))
    (Decides-and (leb (length (versions c)) most_versions) _ (decides_leb (length (versions c)) most_versions)
    (Decides-and (drafted u c.draft) _ (decides_drafted u c.draft)
    (Decides-by_and (rooted (settled u c.draft)) (Root (settled u c.draft)) (all_rooted (settled u c.draft)) (decides_rooted (settled u c.draft))
    refl (λ _ _. refl) (versions c))))))

pub decides_inside : (lens : List ℕ) (t : Tree) → Decides (inside lens t) (Inside lens t)
decides_inside lens (piece s k i m) =
    Decides-like (inside lens (piece s k i m)) (λ p. (p.0, p.1.0, p.1.1)) (λ p. (p.0, (p.1, p.2)))
    (Decides-and (ltb 0 m) _ (Decides-ltb 0 m)
    (Decides-and (ltb k (length lens)) (leb (i + m) (get_or lens k 0)) (Decides-ltb k (length lens)) (decides_leb (i + m) (get_or lens k 0))))
decides_inside lens (node s l r) = Decides-and (inside lens l) (inside lens r) (decides_inside lens l) (decides_inside lens r)

decides_consistent : (s : Store) (c : Contents) → Decides (consistent s c) (Consistent s c)
unfolding consistent
decides_consistent s c =
    Decides-like (consistent s c)
    (λ p. record { ready = record { within = p.0; few = p.1.0; sound = p.1.1.0 }; orderly = p.1.1.1.0; inside = p.1.1.1.1 })
    (λ w. (w.ready.within, (w.ready.few, (w.ready.sound, (w.orderly, w.inside)))))
    (Decides-and (leb s.used (length s.records)) _ (decides_leb s.used (length s.records))
    (Decides-and (leb s.used most_slots) _ (decides_leb s.used most_slots)
    (Decides-and (all_stand (in_use s) (length (in_use s))) _ (decides_sound (in_use s))
    (Decides-and (orderly s.used c) _ (decides_orderly s.used c)
    (Decides-by_and (inside (noted c)) (Inside (noted c)) (all_inside (noted c)) (decides_inside (noted c)) refl (λ _ _. refl) (trees (in_use s)))))))

pub tested : (s : Store) (c : Contents) → consistent s c ≡ true → Consistent s c
tested s c e = (decides_consistent s c).0 e

pub passes : {s : Store} {c : Contents} → Consistent s c → consistent s c ≡ true
passes {s} {c} w = (decides_consistent s c).1 w
