-- Trees of pieces, and the bytes that they spell.
use Rattle.std.specs.Prelude.{ℕ, ◌+◌, ◌<◌, ◌≤◌, max, List, ◌++◌, length}
use Rattle.shelf.specs.Texts.{text, stretch}

-- A piece names a stretch of a text: `len` bytes of text number `text`, from `start` on. A node joins two trees.
-- Each has a slot, the number of the record that holds it.
pub data Tree : Type 0 where
  piece : (slot text start len : ℕ) → Tree
  node : (slot : ℕ) (left right : Tree) → Tree

abbrev pub slot : Tree → ℕ
slot (piece s k i m) = s
slot (node s l r) = s

abbrev pub height : Tree → ℕ
height (piece s k i m) = 0
height (node s l r) = max (height l) (height r) + 1

-- the number of bytes
abbrev pub size : Tree → ℕ
size (piece s k i m) = m
size (node s l r) = size l + size r

-- a shared piece counts each time
abbrev pub pieces : Tree → ℕ
pieces (piece s k i m) = 1
pieces (node s l r) = pieces l + pieces r

-- in every node the heights of the sides differ by at most 1
abbrev pub Balanced : Tree → Type 0
Balanced (piece s k i m) = Unit {0}
Balanced (node s l r) = (height l ≤ height r + 1) × (height r ≤ height l + 1) × Balanced l × Balanced r

-- every piece has a byte at least and lies inside its text
abbrev pub Within : List (List ℕ) → Tree → Type 0
Within texts (piece s k i m) = (0 < m) × (k < length texts) × (i + m ≤ length (text texts k))
Within texts (node s l r) = Within texts l × Within texts r

abbrev pub spell : List (List ℕ) → Tree → List ℕ
spell texts (piece s k i m) = stretch i m (text texts k)
spell texts (node s l r) = spell texts l ++ spell texts r
