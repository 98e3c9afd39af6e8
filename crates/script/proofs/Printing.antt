-- The digits of a number and the items of a line, one on.
use Rattle.std.proofs.Common.{◌≡◌, ℕ, ◌+◌, ◌*◌, ◌^◌, ◌<◌, ◌≤◌, List, [], ◌∷◌, ◌++◌, length, get_or, drop, decimal, sym, ◌∙◌, append_assoc, arith, length-append}
use Rattle.std.specs.List.{AllByRecursion}
use Rattle.shelf.specs.declared.rows.Layer.{Layer}
use Rattle.std.proofs.lemmas.List.{at_drop_more, at_drop_all}
use Rattle.std.proofs.lemmas.Fmt.{length-decimal-le}
use Rattle.script.specs.declared.items.Item.{Item}
use Rattle.script.specs.declared.items.Word.{Word}
use Rattle.script.specs.Items.{spelled, separator, printed}

pub at_most_20 : (n : ℕ) → n < 2 ^ 64 → length (decimal n) ≤ 20
at_most_20 n f = length-decimal-le 20 n (omega arith) (omega arith) f

module _ (items : List Item) (i : ℕ) where
  -- the line from item i on: the item, the byte behind it, and the rest
  pub item_more : (d : Item) → i < length items → printed (drop i items) ≡ (spelled (get_or items i d) ++ separator (drop (i + 1) items) ∷ []) ++ printed (drop (i + 1) items)
  item_more d h =
      at_drop_more printed items i d h
      ∙ sym (append_assoc (spelled (get_or items i d)) (separator (drop (i + 1) items) ∷ []) (printed (drop (i + 1) items)))

  pub last_separator : length items ≤ i → 10 ≡ separator (drop i items)
  last_separator h = sym (at_drop_all separator items i h)

  pub space_separator : (d : Item) → i < length items → 32 ≡ separator (drop i items)
  space_separator d h = sym (at_drop_more separator items i d h)

-- an item whose number, if it is one, has at most 64 bits
abbrev pub Narrow : Item → Type 0
Narrow (Item.Word word) = Unit {0}
Narrow (Item.Layer layer) = Unit {0}
Narrow (Item.Number n) = n < 2 ^ 64

item_short : (item : Item) → Narrow item → length (spelled item) ≤ 20
item_short (Item.Word Word.Kept) h = omega arith
item_short (Item.Word Word.Made) h = omega arith
item_short (Item.Word Word.Nowhere) h = omega arith
item_short (Item.Word Word.Fault) h = omega arith
item_short (Item.Layer Layer.Shelf) h = omega arith
item_short (Item.Layer Layer.Book) h = omega arith
item_short (Item.Layer Layer.Sheet) h = omega arith
item_short (Item.Layer Layer.Script) h = omega arith
item_short (Item.Number n) h = at_most_20 n h

-- items of at most 20 bytes, with a byte behind each
pub line_short : (items : List Item) → AllByRecursion Narrow items → length (printed items) ≤ length items * 21
line_short [] h = omega arith
line_short (item ∷ items) h =
    let one = item_short item h.0 in
    let more = line_short items h.1 in
    let sum = length-append (spelled item) (separator items ∷ printed items) in
    omega arith
