-- What `Consistent` says, as a test: a field of a struct can hold only a fact with one proof at most.
use Rattle.std.specs.Prelude.{ℕ, zero, suc, ◌+◌, Bool, true, ◌&&◌, List, [], ◌∷◌, length, Some, None, Option, ◌==◌, nat_le, nat_lt, slice_index, slice_index_or}
use Rattle.shelf.specs.Texts.{limit, most_texts}
use Rattle.tree.specs.Tree.{Tree, piece, node, height, size, pieces}
use Rattle.model.specs.Rows.{most_slots, most_versions}
use Rattle.book.specs.declared.contents.Contents.{Contents}
use Rattle.book.specs.declared.contents.OpenDraft.{OpenDraft}
use Rattle.book.specs.declared.node.Node.{Node}
use Rattle.book.specs.declared.node.Shape.{Shape}
use Rattle.book.specs.declared.node.Shape.TheVariants.{Piece, Fork}
use Rattle.book.specs.Records.{no_node, trees, tree_at, Store, in_use}
use Rattle.book.specs.Contents.{noted, versions, settled}

abbrev pub balanced : Tree → Bool
balanced (piece s k i m) = true
balanced (node s l r) = nat_le (height l) (height r + 1) && (nat_le (height r) (height l + 1) && (balanced l && balanced r))

abbrev pub filled : Tree → Bool
filled (piece s k i m) = nat_lt 0 m && nat_le (i + m) limit
filled (node s l r) = filled l && filled r

abbrev pub below : ℕ → Shape → Bool
below i (Piece k s) = true
below i (Fork l r) = nat_lt l i && nat_lt r i

abbrev pub stands : ℕ → Node → Tree → Bool
stands i x t =
    below i x.shape && (x.len == size t && (x.height == height t && (x.pieces == pieces t && (balanced t && (filled t && nat_le (size t) limit)))))

-- each of the first `n` records stands for its tree
unfoldable pub all_stand : List Node → (n : ℕ) → Bool
all_stand xs zero = true
all_stand xs (suc n) = stands n (slice_index_or xs n no_node) (tree_at xs n) && all_stand xs n

abbrev pub rooted : ℕ → Option ℕ → Bool
rooted used None = true
rooted used (Some i) = nat_lt i used

abbrev pub all_rooted : ℕ → List (Option ℕ) → Bool
all_rooted used [] = true
all_rooted used (v ∷ vs) = rooted used v && all_rooted used vs

abbrev pub drafted : ℕ → Option OpenDraft → Bool
drafted used None = true
drafted used (Some d) = rooted used d.root && nat_le d.base used

abbrev pub all_short : List ℕ → Bool
all_short [] = true
all_short (n ∷ ns) = nat_le n limit && all_short ns

abbrev pub orderly : ℕ → Contents → Bool
orderly used c =
    nat_le (length (noted c)) most_texts
    && (all_short (noted c)
    && (nat_le (length (versions c)) most_versions && (drafted used c.draft && all_rooted (settled used c.draft) (versions c))))

abbrev pub inside : List ℕ → Tree → Bool
inside lens (piece s k i m) = nat_lt 0 m && (nat_lt k (length lens) && nat_le (i + m) (slice_index lens k))
inside lens (node s l r) = inside lens l && inside lens r

abbrev pub all_inside : List ℕ → List Tree → Bool
all_inside lens [] = true
all_inside lens (t ∷ ts) = inside lens t && all_inside lens ts

unfoldable pub consistent : Store → Contents → Bool
consistent s c =
    nat_le s.used (length s.records)
    && (nat_le s.used most_slots && (all_stand (in_use s) (length (in_use s)) && (orderly s.used c && all_inside (noted c) (trees (in_use s)))))
