-- Joins and splits where a tree may be missing, as it is for the empty string, and the edits made of them.
-- `n` is the next free slot.
use Rattle.std.specs.Prelude.{◌≡◌, ℕ, ◌+◌, ◌≤◌, cond, List, [], ◌∷◌, ◌++◌, length, Some, None, Option, ◌==◌, nat_le}
use Rattle.std.specs.List.{AllByRecursion}
use Rattle.tree.specs.Tree.{Tree, piece, height, size, Balanced, Within, spell}
use Rattle.tree.specs.Rules.{join, split}
use Rattle.tree.specs.Stored.{Stored, Grows}

-- what was made: the trees written, in the order of their slots, and the result
pub record Made : Type 0 where
  pub new : List Tree
  pub tree : Option Tree

-- the two parts of a split anywhere
pub record Halves : Type 0 where
  pub new : List Tree
  pub left : Option Tree
  pub right : Option Tree

abbrev pub spell_any : List (List ℕ) → Option Tree → List ℕ
spell_any texts None = []
spell_any texts (Some t) = spell texts t

abbrev pub size_any : Option Tree → ℕ
size_any None = 0
size_any (Some t) = size t

abbrev pub height_any : Option Tree → ℕ
height_any None = 0
height_any (Some t) = height t

-- nothing is made
abbrev pub as_it_is : Option Tree → Made
as_it_is t = record { new = []; tree = t }

abbrev pub join_any : ℕ → Option Tree → Option Tree → Made
join_any n None r = as_it_is r
join_any n (Some l) None = as_it_is (Some l)
join_any n (Some l) (Some r) = let b = join n l r in record { new = b.new; tree = Some b.tree }

-- at 0, at the full length, and strictly inside
abbrev pub split_any : ℕ → Option Tree → ℕ → Halves
split_any n None p = record { new = []; left = None; right = None }
split_any n (Some t) p =
    cond (p == 0) (record { new = []; left = None; right = Some t })
    (cond (nat_le (size t) p) (record { new = []; left = Some t; right = None })
    (let q = split n t p in record { new = q.new; left = Some q.left; right = Some q.right }))

-- `x` put in at `p`: the split, then the join with the left part, then that with the right part
abbrev pub put : ℕ → Option Tree → ℕ → Tree → Made
put n t p x =
    let h = split_any n t p in
    let a = join_any (n + length h.new) h.left (Some x) in
    let b = join_any (n + length h.new + length a.new) a.tree h.right in
    record { new = h.new ++ (a.new ++ b.new); tree = b.tree }

-- a piece of `m` bytes from place `i` of text `k` on takes the first slot
abbrev pub put_piece : ℕ → Option Tree → ℕ → ℕ → ℕ → ℕ → Made
put_piece n t p k i m = let b = put (n + 1) t p (piece n k i m) in record { new = piece n k i m ∷ b.new; tree = b.tree }

abbrev pub put_any : ℕ → Option Tree → ℕ → Option Tree → Made
put_any n t p None = as_it_is t
put_any n t p (Some x) = put n t p x

-- without the `m` bytes from `p` on
abbrev pub cut : ℕ → Option Tree → ℕ → ℕ → Made
cut n t p m =
    let h = split_any n t p in
    let k = split_any (n + length h.new) h.right m in
    let b = join_any (n + length h.new + length k.new) h.left k.right in
    cond (m == 0) (as_it_is t) (record { new = h.new ++ (k.new ++ b.new); tree = b.tree })

-- the `m` bytes from `p` on
abbrev pub crop : ℕ → Option Tree → ℕ → ℕ → Made
crop n t p m =
    let h = split_any n t p in
    let k = split_any (n + length h.new) h.right m in
    record { new = h.new ++ k.new; tree = k.left }

-- balanced, if there is a tree
abbrev pub Level : Option Tree → Type 0
Level None = Unit {0}
Level (Some t) = Balanced t

-- a tree in order: balanced, inside the texts, and not too long
pub record Sound (texts : List (List ℕ)) (limit : ℕ) (t : Tree) : Type 0 where
  pub balanced : Balanced t
  pub within : Within texts t
  pub short : size t ≤ limit

-- a tree, if there is one, that is in order and stored
abbrev pub Fit : List (List ℕ) → ℕ → List Tree → Option Tree → Type 0
Fit texts limit trees None = Unit {0}
Fit texts limit trees (Some t) = Sound texts limit t × Stored trees t

-- what is written behind `trees` is in order
pub record Grown (texts : List (List ℕ)) (limit : ℕ) (trees new : List Tree) : Type 0 where
  pub grows : Grows trees new
  pub sound : AllByRecursion (Sound texts limit) new

-- an edit makes a tree that spells `s`
pub record Spells (texts : List (List ℕ)) (limit : ℕ) (trees : List Tree) (b : Made) (s : List ℕ) : Type 0 where
  pub grown : Grown texts limit trees b.new
  pub fit : Fit texts limit (trees ++ b.new) b.tree
  pub spells : spell_any texts b.tree ≡ s
