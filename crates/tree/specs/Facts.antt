-- What is proved of the rules, the slots and the edits.
use Rattle.std.specs.Prelude.{◌≡◌, ℕ, ◌+◌, ◌-◌, ◌*◌, ◌<◌, ◌≤◌, max, ◌↔◌, List, [], ◌∷◌, ◌++◌, length, take, drop, Some, None, Option, slice_index_or}
use Rattle.std.specs.List.{AllByRecursion}
use Rattle.shelf.specs.Texts.{limit, text, stretch}
use Rattle.tree.specs.Tree.{Tree, piece, node, slot, height, size, pieces, Balanced, Within, spell}
use Rattle.tree.specs.Side.{Side, left, right}
use Rattle.tree.specs.Rules.{Built, Brackets, write, plain, turn_once, turn_twice, lean, join, Parts, split}
use Rattle.tree.specs.Relations.{Leaned, Joined, Split}
use Rattle.tree.specs.Stored.{Stored, Grows, Placed, PlacedBoth}
use Rattle.tree.specs.Edits.{Fit, Level, height_any, Spells, spell_any, size_any, as_it_is, join_any, split_any, put_piece, put_any, cut, crop}
use Rattle.tree.specs.Bare.{Bare, forget, forget_any, Leans, Joins, Join, Splits, JoinAny, SplitAny, PutPiece, PutAny, Cut, Crop}
use Rattle.tree.specs.Made.{put_made, put_any_made, cut_made, crop_made}
use Rattle.tree.specs.Fib.{fib}

-- The functions build what the relations allow, and nothing else is allowed.
pub record FollowTheRules : Type 0 where
  pub leans : (side : Side) (a t : Tree) (x : Brackets) → Leaned side a t x ↔ lean side a t ≡ x
  pub joins : (n : ℕ) (l r : Tree) → Balanced l → Balanced r → (b : Built) → Joined left n l r b ↔ join n l r ≡ b
  pub splits : (n : ℕ) (t : Tree) (p : ℕ) → Balanced t → 0 < p → p < size t → (q : Parts) → Split n t p q ↔ split n t p ≡ q

-- What a plain join and the turns write: inner before outer, left before right.
pub record TurnsWritten (n : ℕ) (a c d e f : Tree) : Type 0 where
  pub plain_left : (write n (plain left a c)).new ≡ node n a c ∷ []
  pub plain_right : (write n (plain right a c)).new ≡ node n c a ∷ []
  pub once_left : (write n (turn_once left a c d)).new ≡ node n a c ∷ node (n + 1) (node n a c) d ∷ []
  pub once_right : (write n (turn_once right a c d)).new ≡ node n c a ∷ node (n + 1) d (node n c a) ∷ []
  pub twice_left : (write n (turn_twice left a e f d)).new ≡ node n a e ∷ node (n + 1) f d ∷ node (n + 2) (node n a e) (node (n + 1) f d) ∷ []
  pub twice_right : (write n (turn_twice right a e f d)).new ≡ node n d f ∷ node (n + 1) e a ∷ node (n + 2) (node n d f) (node (n + 1) e a) ∷ []

abbrev pub SlotsInOrder : Type 0
SlotsInOrder = (n : ℕ) (a c d e f : Tree) → TurnsWritten n a c d e f

-- With the slots forgotten, the functions build what the relations on bare trees allow, and nothing else is allowed.
pub record BareTrees : Type 0 where
  pub leans : (side : Side) (n : ℕ) (a t : Tree) (u : Bare) → Leans side (forget a) (forget t) u ↔ forget (write n (lean side a t)).tree ≡ u
  pub joins : (n : ℕ) (l r : Tree) → Balanced l → Balanced r → (t : Bare) → Join (forget l) (forget r) t ↔ forget (join n l r).tree ≡ t
  pub splits : (n : ℕ) (t : Tree) (p : ℕ) → Balanced t → 0 < p → p < size t → (x y : Bare) →
      Splits (forget t) p x y ↔ (forget (split n t p).left ≡ x) × (forget (split n t p).right ≡ y)

pub record BareEdits (n : ℕ) (t : Option Tree) : Type 0 where
  pub joins : (x : Option Tree) → Level x → (u : Option Bare) → JoinAny (forget_any t) (forget_any x) u ↔ forget_any (join_any n t x).tree ≡ u
  pub splits : (p : ℕ) → p ≤ size_any t → (x y : Option Bare) →
      SplitAny (forget_any t) p x y ↔ (forget_any (split_any n t p).left ≡ x) × (forget_any (split_any n t p).right ≡ y)
  pub puts_piece : (p k i m : ℕ) → p ≤ size_any t → (u : Option Bare) → PutPiece (forget_any t) p k i m u ↔ forget_any (put_piece n t p k i m).tree ≡ u
  pub puts : (p : ℕ) (x : Option Tree) → p ≤ size_any t → Level x → (u : Option Bare) →
      PutAny (forget_any t) p (forget_any x) u ↔ forget_any (put_any n t p x).tree ≡ u
  pub cuts : (p m : ℕ) → p + m ≤ size_any t → (u : Option Bare) → Cut (forget_any t) p m u ↔ forget_any (cut n t p m).tree ≡ u
  pub crops : (p m : ℕ) → p + m ≤ size_any t → (u : Option Bare) → Crop (forget_any t) p m u ↔ forget_any (crop n t p m).tree ≡ u

-- The rules that the edits follow write as many pieces and nodes as the edits take slots.
pub record BareCounts (n : ℕ) (t : Option Tree) : Type 0 where
  pub puts_piece : (p k i m : ℕ) → p ≤ size_any t →
      (rules : PutPiece (forget_any t) p k i m (forget_any (put_piece n t p k i m).tree)) × (put_made rules + 1 ≡ length (put_piece n t p k i m).new)
  pub puts : (p : ℕ) (x : Option Tree) → p ≤ size_any t → Level x →
      (rules : PutAny (forget_any t) p (forget_any x) (forget_any (put_any n t p x).tree)) × (put_any_made rules ≡ length (put_any n t p x).new)
  pub cuts : (p m : ℕ) → p + m ≤ size_any t → (rules : Cut (forget_any t) p m (forget_any (cut n t p m).tree)) × (cut_made rules ≡ length (cut n t p m).new)
  pub crops : (p m : ℕ) → p + m ≤ size_any t → (rules : Crop (forget_any t) p m (forget_any (crop n t p m).tree)) × (crop_made rules ≡ length (crop n t p m).new)

abbrev pub FollowBareRules : Type 0
FollowBareRules =
    BareTrees × ((n : ℕ) (t : Option Tree) → Level t → BareEdits n t) × ((n : ℕ) (t : Option Tree) → Level t → BareCounts n t)

-- The relations on bare trees leave no choice, whether the trees are balanced or not.
pub record OneOutcome : Type 0 where
  pub join : (side : Side) (x y t u : Bare) → Joins side x y t → Joins side x y u → t ≡ u
  pub split : (t x y v w : Bare) (p : ℕ) → Splits t p x y → Splits t p v w → (x ≡ v) × (y ≡ w)
  pub join_any : (x y t u : Option Bare) → JoinAny x y t → JoinAny x y u → t ≡ u
  pub split_any : (t x y v w : Option Bare) (p : ℕ) → SplitAny t p x y → SplitAny t p v w → (x ≡ v) × (y ≡ w)
  pub put : (t x u v : Option Bare) (p : ℕ) → PutAny t p x u → PutAny t p x v → u ≡ v
  pub cut : (t u v : Option Bare) (p m : ℕ) → Cut t p m u → Cut t p m v → u ≡ v
  pub crop : (t u v : Option Bare) (p m : ℕ) → Crop t p m u → Crop t p m v → u ≡ v

-- a join of any two trees
pub record JoinSums (n : ℕ) (l r : Tree) : Type 0 where
  pub size_is : size (join n l r).tree ≡ size l + size r
  pub pieces_is : pieces (join n l r).tree ≡ pieces l + pieces r
  pub spells : (texts : List (List ℕ)) → spell texts (join n l r).tree ≡ spell texts l ++ spell texts r
  pub within : (texts : List (List ℕ)) → Within texts l → Within texts r → Within texts (join n l r).tree × AllByRecursion (Within texts) (join n l r).new

abbrev pub JoinAdds : Type 0
JoinAdds = (n : ℕ) (l r : Tree) → JoinSums n l r

-- a join of two balanced trees
pub record JoinFacts (n : ℕ) (l r : Tree) : Type 0 where
  pub balanced : Balanced (join n l r).tree
  pub low : max (height l) (height r) ≤ height (join n l r).tree
  pub high : height (join n l r).tree ≤ max (height l) (height r) + 1
  pub all_balanced : AllByRecursion Balanced (join n l r).new
  pub last : slot (join n l r).tree + 1 ≡ n + length (join n l r).new
  pub placed : (trees : List Tree) → length trees ≡ n → Stored trees l → Stored trees r → Placed trees (join n l r).new (join n l r).tree
  pub cost : (d : ℕ) → height l ≤ height r + d → height r ≤ height l + d → length (join n l r).new ≤ 3 * d + 1

abbrev pub JoinKeeps : Type 0
JoinKeeps = (n : ℕ) (l r : Tree) → Balanced l → Balanced r → JoinFacts n l r

-- a split strictly inside a balanced tree
pub record SplitFacts (n : ℕ) (t : Tree) (p : ℕ) : Type 0 where
  pub left_balanced : Balanced (split n t p).left
  pub right_balanced : Balanced (split n t p).right
  pub all_balanced : AllByRecursion Balanced (split n t p).new
  pub left_high : height (split n t p).left ≤ height t
  pub right_high : height (split n t p).right ≤ height t
  pub left_size : size (split n t p).left ≡ p
  pub right_size : size (split n t p).right ≡ size t - p
  pub spells : (texts : List (List ℕ)) → spell texts (split n t p).left ++ spell texts (split n t p).right ≡ spell texts t
  pub front : (texts : List (List ℕ)) → Within texts t → spell texts (split n t p).left ≡ take p (spell texts t)
  pub rest : (texts : List (List ℕ)) → Within texts t → spell texts (split n t p).right ≡ drop p (spell texts t)
  pub within : (texts : List (List ℕ)) → Within texts t →
      Within texts (split n t p).left × Within texts (split n t p).right × AllByRecursion (Within texts) (split n t p).new
  pub placed : (trees : List Tree) → length trees ≡ n → Stored trees t → PlacedBoth trees (split n t p).new (split n t p).left (split n t p).right
  pub cost : length (split n t p).new ≤ 7 * height t + 2

abbrev pub SplitKeeps : Type 0
SplitKeeps = (n : ℕ) (t : Tree) (p : ℕ) → Balanced t → 0 < p → p < size t → SplitFacts n t p

-- The edits of a tree, where `trees` are the trees of the slots in use, and no tree may have more than `most` bytes: they spell what plain byte strings give.
pub record EditFacts (texts : List (List ℕ)) (most : ℕ) (trees : List Tree) (t : Option Tree) : Type 0 where
  pub put_piece_spells : (p k i m : ℕ) → 0 < m → k < length texts → i + m ≤ length (text texts k) → size_any t + m ≤ most →
      Spells texts most trees (put_piece (length trees) t p k i m) (take p (spell_any texts t) ++ stretch i m (text texts k) ++ drop p (spell_any texts t))
  pub put_spells : (p : ℕ) (x : Option Tree) → Fit texts most trees x → size_any t + size_any x ≤ most →
      Spells texts most trees (put_any (length trees) t p x) (take p (spell_any texts t) ++ spell_any texts x ++ drop p (spell_any texts t))
  pub cut_spells : (p m : ℕ) → Spells texts most trees (cut (length trees) t p m) (take p (spell_any texts t) ++ drop (p + m) (spell_any texts t))
  pub crop_spells : (p m : ℕ) → Spells texts most trees (crop (length trees) t p m) (stretch p m (spell_any texts t))

abbrev pub EditsSpell : Type 0
EditsSpell = (texts : List (List ℕ)) (most : ℕ) (trees : List Tree) (t : Option Tree) → Fit texts most trees t → EditFacts texts most trees t

abbrev pub Fibonacci : Type 0
Fibonacci = (fib 1 ≡ 1) × (fib 2 ≡ 1) × ((n : ℕ) → fib (n + 2) ≡ fib n + fib (n + 1))

-- balanced trees of many levels have many pieces
abbrev pub ManyPieces : Type 0
ManyPieces = (t : Tree) → Balanced t → fib (height t + 2) ≤ pieces t

-- balanced trees of at most `most` bytes are at most `h` high
abbrev pub LowUnder : ℕ → ℕ → Type 0
LowUnder most h = (texts : List (List ℕ)) (t : Tree) → Balanced t → Within texts t → size t ≤ most → height t ≤ h

abbrev pub LowLaw : Type 0
LowLaw = (most h : ℕ) → most < fib (h + 3) → LowUnder most h

abbrev pub HeightsBounded : Type 0
HeightsBounded = Fibonacci × ManyPieces × LowLaw × LowUnder limit 42

-- what is written in order stands at the next slots, and what was stored stays so
pub record Growing (trees new : List Tree) : Type 0 where
  pub slots : (j : ℕ) (d : Tree) → j < length new → slot (slice_index_or new j d) ≡ length trees + j
  pub all_stored : AllByRecursion (Stored (trees ++ new)) new
  pub old_stored : (t : Tree) → Stored trees t → Stored (trees ++ new) t

-- a list written from nothing: each slot's tree is stored, and when the list is cut back, what stands in the slots that are left stays stored
pub record Heap (trees : List Tree) : Type 0 where
  pub each_stored : (j : ℕ) (d : Tree) → j < length trees → Stored trees (slice_index_or trees j d)
  pub grows_more : (new : List Tree) → Grows trees new → Grows [] (trees ++ new)
  pub grows_take : (n : ℕ) → Grows [] (take n trees)
  pub stored_take : (n : ℕ) (t : Tree) → Stored trees t → slot t < n → Stored (take n trees) t

abbrev pub SlotsKeep : Type 0
SlotsKeep = ((trees new : List Tree) → Grows trees new → Growing trees new) × ((trees : List Tree) → Grows [] trees → Heap trees)

-- what the edits make: where nothing is to do, nothing; otherwise what their splits and joins make, and the piece that is put
pub record EditCounts (n : ℕ) (t : Option Tree) (p : ℕ) : Type 0 where
  pub put_nothing : put_any n t p None ≡ as_it_is t
  pub cut_nothing : cut n t p 0 ≡ as_it_is t
  pub put_piece_made : (k i m : ℕ) → length (put_piece n t p k i m).new ≡ 1 + length (put_any (n + 1) t p (Some (piece n k i m))).new
  pub put_made : (x : Tree) →
      let h = split_any n t p in
      let a = join_any (n + length h.new) h.left (Some x) in
      let b = join_any (n + length h.new + length a.new) a.tree h.right in
      length (put_any n t p (Some x)).new ≡ length h.new + length a.new + length b.new
  pub cut_made : (m : ℕ) → 0 < m →
      let h = split_any n t p in
      let k = split_any (n + length h.new) h.right m in
      let b = join_any (n + length h.new + length k.new) h.left k.right in
      length (cut n t p m).new ≡ length h.new + length k.new + length b.new
  pub crop_made : (m : ℕ) →
      let h = split_any n t p in
      let k = split_any (n + length h.new) h.right m in
      length (crop n t p m).new ≡ length h.new + length k.new

abbrev pub EditsCount : Type 0
EditsCount = (n : ℕ) (t : Option Tree) (p : ℕ) → EditCounts n t p

-- the slots that the edits of trees of height `h` at most take
pub record EditCosts (n : ℕ) (t : Option Tree) (p h : ℕ) : Type 0 where
  pub put_piece_cost : (k i m : ℕ) → length (put_piece n t p k i m).new ≤ 13 * h + 5
  pub put_cost : (x : Option Tree) → Level x → height_any x ≤ h → length (put_any n t p x).new ≤ 13 * h + 4
  pub cut_cost : (m : ℕ) → length (cut n t p m).new ≤ 17 * h + 5
  pub crop_cost : (m : ℕ) → length (crop n t p m).new ≤ 14 * h + 4

abbrev pub EditsCost : Type 0
EditsCost = (n : ℕ) (t : Option Tree) (p h : ℕ) → Level t → height_any t ≤ h → EditCosts n t p h
