-- Worked examples of the definitions: joins and splits, brackets, and a frame. In the trees letters are pieces of one byte.
use Rattle.std.specs.Prelude.{◌≡◌, ℕ, [], ◌∷◌, length, Ok, codes}
use Rattle.shelf.specs.declared.frame.Kind.TheVariants.{Ring}
use Rattle.shelf.specs.Frames.{checked}
use Rattle.rule.specs.Brackets.{unmatched, joined_unmatched}
use Rattle.tree.specs.Tree.{Tree, piece, node}
use Rattle.tree.specs.Rules.{join, split}
use Rattle.tree.specs.Bare.{forget}

-- the next free slot; the trees that are given stand in earlier ones
abbrev next : ℕ
next = 20

abbrev ◌·◌ : Tree → Tree → Tree
◌·◌ l r = node 0 l r

infixl 60 ◌·◌
-- `l` with `r`
abbrev JoinsTo : (l r t : Tree) (made : ℕ) → Type 0
JoinsTo l r t made = (forget (join next l r).tree ≡ forget t) × (length (join next l r).new ≡ made)

abbrev SplitsTo : (t : Tree) (place : ℕ) (x y : Tree) (made : ℕ) → Type 0
SplitsTo t place x y made =
    (forget (split next t place).left ≡ forget x) × (forget (split next t place).right ≡ forget y) × (length (split next t place).new ≡ made)

abbrev a : Tree
a = piece 0 0 0 1

abbrev b : Tree
b = piece 0 0 1 1

abbrev c : Tree
c = piece 0 0 2 1

abbrev d : Tree
d = piece 0 0 3 1

abbrev e : Tree
e = piece 0 0 4 1

abbrev f : Tree
f = piece 0 0 5 1

abbrev g : Tree
g = piece 0 0 6 1

pub record WorkedExamples : Type 0 where
  pub plain_join : JoinsTo ((a · b) · c) d ((a · b) · (c · d)) 2
  pub double_turn : JoinsTo (a · (b · c)) d ((a · b) · (c · d)) 4
  pub single_turn : JoinsTo ((a · b) · ((c · d) · (e · f))) g (((a · b) · (c · d)) · ((e · f) · g)) 4
  pub mirrored_turn : JoinsTo a ((b · c) · d) ((a · b) · (c · d)) 4
  pub split_between : SplitsTo ((a · b) · c) 1 a (b · c) 1
  pub split_piece : SplitsTo (piece 0 0 0 5) 2 (piece 0 0 0 2) (piece 0 0 2 3) 2
  pub brackets : joined_unmatched (unmatched (codes ")(")) (unmatched (codes ")(")) ≡ record { closings = 1; openings = 1 }
  pub ring_frame :
      checked (0x08 ∷ 0x00 ∷ 0x00 ∷ 0x00 ∷ 0x02 ∷ 0x00 ∷ 0x02 ∷ 0x00 ∷ 0x00 ∷ 0x00 ∷ 0x63 ∷ 0x64 ∷ 0x61 ∷ 0x62 ∷ [])
      ≡ Ok (record { kind = Ring; text = codes "abcd" })
