-- A buffer that is filled from a tree in records.
use Rattle.std.proofs.Common.{◌≡◌, ℕ, ◌+◌, ◌-◌, ◌<◌, ◌≤◌, false, ltb, leb, List, ◌++◌, length, get_or, drop, Ok, sym, refl, ap, ◌∙◌, subst, ap₂, arith}
use Rattle.std.proofs.lemmas.Bool.{lt-leb, le-ltb}
use Rattle.shelf.specs.Texts.{text, stretch}
use Rattle.shelf.proofs.Copies.{Copied, accepted, stretch_take}
use Rattle.tree.specs.Tree.{Tree, piece, size, Within, spell}
use Rattle.tree.proofs.Spell.{length_spell}
use Rattle.book.specs.declared.node.Node.{Node}
use Rattle.book.specs.Records.{no_node, tree_at}
use Rattle.book.specs.Reader.{Readable, bytes_at}
use Rattle.book.proofs.Reading.{Leaf, NodeAt, within_at}
use Rattle.ask.proofs.Stretches.{stretch_inner, stretch_left, stretch_right, stretch_both}

-- a copy from inside a piece passes, and fills the buffer with the piece's bytes
piece_copied : (texts : List (List ℕ)) (s k i m from : ℕ) (old : List ℕ) → Within texts (piece s k i m) → from + length old ≤ m →
    Copied texts k (i + from) old (Ok tt) (stretch from (length old) (spell texts (piece s k i m)))
piece_copied texts s k i m from old w h =
    let n = length old in
    let there : leb (length texts) k ≡ false = lt-leb (length texts) k w.1 in
    let within : ltb (length (text texts k)) (i + from + n) ≡ false = le-ltb (length (text texts k)) (i + from + n) (omega (arith, w.2)) in
    accepted texts k (i + from) old (stretch from n (spell texts (piece s k i m))) (rw (there, within) refl)
    (stretch_take from n m (drop i (text texts k)) h ∙ stretch_inner i from n (text texts k))

-- the bytes of the tree at a slot
pub length_bytes : {texts : List (List ℕ)} {nodes : List Node} → Readable texts nodes → (slot : ℕ) → slot < length nodes →
    length (bytes_at texts nodes slot) ≡ size (tree_at nodes slot)
length_bytes {texts} {nodes} r slot used = length_spell texts (tree_at nodes slot) (within_at r used)

-- a record of a piece
pub piece_fills : {texts : List (List ℕ)} {nodes : List Node} {slot k i : ℕ} → Leaf texts nodes slot k i → (from : ℕ) (old : List ℕ) →
    from + length old ≤ size (tree_at nodes slot) → Copied texts k (i + from) old (Ok tt) (stretch from (length old) (bytes_at texts nodes slot))
piece_fills {texts} {nodes} {slot} {k} {i} p from old h =
    let z = p.size_is in
    subst (λ (t : Tree). Copied texts k (i + from) old (Ok tt) (stretch from (length old) (spell texts t))) (sym p.is)
    (piece_copied texts slot k i (get_or nodes slot no_node).len from old p.within (omega arith))

-- a record of a node
module _ {texts : List (List ℕ)} {nodes : List Node} {slot : ℕ} {a b : ℕ} (r : Readable texts nodes) (used : slot < length nodes) (f : NodeAt nodes slot a b) where
  left_length : length (bytes_at texts nodes a) ≡ (get_or nodes a no_node).len
  left_length = let h = f.left_below in length_bytes r a (omega arith) ∙ sym f.left_size

  spelled : bytes_at texts nodes slot ≡ bytes_at texts nodes a ++ bytes_at texts nodes b
  spelled = ap (spell texts) f.is

  pub left_fills : (from n : ℕ) → from + n ≤ (get_or nodes a no_node).len → stretch from n (bytes_at texts nodes a) ≡ stretch from n (bytes_at texts nodes slot)
  left_fills from n h =
      let l = left_length in
      sym (ap (stretch from n) spelled ∙ stretch_left (bytes_at texts nodes a) (bytes_at texts nodes b) from n (omega arith))

  pub right_fills : (from n : ℕ) → (get_or nodes a no_node).len ≤ from →
      stretch (from - (get_or nodes a no_node).len) n (bytes_at texts nodes b) ≡ stretch from n (bytes_at texts nodes slot)
  right_fills from n h =
      let l = left_length in
      sym (ap (stretch from n) spelled
      ∙ stretch_right (bytes_at texts nodes a) (bytes_at texts nodes b) from n (omega arith)
      ∙ ap (λ (k : ℕ). stretch (from - k) n (bytes_at texts nodes b)) l)

  -- `front` is read from the left side, `rest` from the right
  pub both_fill : (from p q n : ℕ) (front rest : List ℕ) → from + p ≡ (get_or nodes a no_node).len → p + q ≡ n →
      front ≡ stretch from p (bytes_at texts nodes a) → rest ≡ stretch 0 q (bytes_at texts nodes b) → front ++ rest ≡ stretch from n (bytes_at texts nodes slot)
  both_fill from p q n front rest e m h k =
      let l = left_length in
      ap₂ (λ (x y : List ℕ). x ++ y) h k
      ∙ sym (stretch_both (bytes_at texts nodes a) (bytes_at texts nodes b) from p q (omega arith))
      ∙ ap₂ (λ (i : ℕ) (s : List ℕ). stretch from i s) m (sym spelled)
