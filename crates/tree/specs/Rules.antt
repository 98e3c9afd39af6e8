-- How trees with slots are joined and split.
-- `n` is the next free slot. Each piece made and each bracket pair newly written takes one, in the order of the list `new`.
use Rattle.std.specs.Prelude.{ℕ, ◌+◌, ◌-◌, cond, List, [], ◌∷◌, ◌++◌, length, ◌==◌, nat_le, nat_lt}
use Rattle.tree.specs.Tree.{Tree, piece, node, height, size}
use Rattle.tree.specs.Side.{Side, left, right, pick}

-- what was built: the trees written, in the order of their slots, and the one that is the result
pub record Built : Type 0 where
  pub new : List Tree
  pub tree : Tree

-- one building, and another that goes on with its result
abbrev pub then : Built → Built → Built
then b c = record { new = b.new ++ c.new; tree = c.tree }

-- bracket pairs newly written around trees that are there already
pub data Brackets : Type 0 where
  old : Tree → Brackets
  pair : Brackets → Brackets → Brackets

-- the next free slot once each bracket pair has taken one
abbrev pub after : ℕ → Brackets → ℕ
after n (old t) = n
after n (pair x y) = after (after n x) y + 1

-- each bracket pair takes the next free slot, inner before outer, left before right
abbrev pub write : ℕ → Brackets → Built
write n (old t) = record { new = []; tree = t }
write n (pair x y) =
    let l = write n x in
    let r = write (after n x) y in
    let t = node (after (after n x) y) l.tree r.tree in
    record { new = l.new ++ (r.new ++ t ∷ []); tree = t }

-- (L R)
abbrev pub link : ℕ → Tree → Tree → Built
link n l r = write n (pair (old l) (old r))

-- (X Y) with X on the side: on the right it is (Y X)
abbrev pub pair_on : Side → Brackets → Brackets → Brackets
pair_on left x y = pair x y
pair_on right x y = pair y x

-- (A T)
abbrev pub plain : Side → Tree → Tree → Brackets
plain side a t = pair_on side (old a) (old t)

-- ((A C) D)
abbrev pub turn_once : Side → Tree → Tree → Tree → Brackets
turn_once side a c d = pair_on side (pair_on side (old a) (old c)) (old d)

-- ((A E)(F D))
abbrev pub turn_twice : Side → Tree → Tree → Tree → Tree → Brackets
turn_twice side a e f d = pair_on side (pair_on side (old a) (old e)) (pair_on side (old f) (old d))

-- T is (C D), and too high to stand beside A: if C is not higher than D, one turn; otherwise C is (E F), and there are two
abbrev pub turn : Side → Tree → Tree → Tree → Brackets
turn side a (piece s k i m) d = turn_once side a (piece s k i m) d
turn side a (node s x y) d = cond (nat_le (height (node s x y)) (height d)) (turn_once side a (node s x y) d) (turn_twice side a (pick side x y) (pick side y x) d)

-- A stays on the side, and T takes the other: as it is, if it is at most one higher than A, and otherwise turned
abbrev pub lean : Side → Tree → Tree → Brackets
lean side a (piece s k i m) = plain side a (piece s k i m)
lean side a (node s x y) = cond (nat_le (height (node s x y)) (height a + 1)) (plain side a (node s x y)) (turn side a (pick side x y) (pick side y x))

-- the join of `high`, which is (A B), with `low`, where `t` is the join of B and `low`
abbrev pub level_or_lean : Side → ℕ → Tree → Tree → Tree → Built → Built
level_or_lean side n high low a t = cond (nat_le (height high) (height low + 1)) (write n (plain side high low)) (then t (write (n + length t.new) (lean side a t.tree)))

-- the join of `high`, which stands on the side, with a tree that is no higher
abbrev pub descend : Side → ℕ → Tree → Tree → Built
descend side n (piece s k i m) low = write n (plain side (piece s k i m) low)
descend left n (node s a b) low = level_or_lean left n (node s a b) low a (descend left n b low)
descend right n (node s b a) low = level_or_lean right n (node s b a) low a (descend right n b low)

abbrev pub join : ℕ → Tree → Tree → Built
join n l r = cond (nat_le (height r) (height l)) (descend left n l r) (descend right n r l)

-- the two parts of a split strictly inside a tree
pub record Parts : Type 0 where
  pub new : List Tree
  pub left : Tree
  pub right : Tree

-- a piece in two, the left part written first
abbrev pub halved : ℕ → ℕ → ℕ → ℕ → ℕ → Parts
halved n k i m p = record {
  new = piece n k i p ∷ piece (n + 1) k (i + p) (m - p) ∷ [];
  left = piece n k i p;
  right = piece (n + 1) k (i + p) (m - p);
}

-- the right part, joined with more, is `b`
abbrev pub with_right : Parts → Built → Parts
with_right q b = record { new = q.new ++ b.new; left = q.left; right = b.tree }

-- the left part, joined with more, is `b`
abbrev pub with_left : Parts → Built → Parts
with_left q b = record { new = q.new ++ b.new; left = b.tree; right = q.right }

-- for 0 < p < size t
abbrev pub split : ℕ → Tree → ℕ → Parts
split n (piece s k i m) p = halved n k i m p
split n (node s l r) p =
    cond (nat_lt p (size l)) (let q = split n l p in with_right q (join (n + length q.new) q.right r))
    (cond (p == size l) (record { new = []; left = l; right = r })
    (let q = split n r (p - size l) in with_left q (join (n + length q.new) l q.left)))
