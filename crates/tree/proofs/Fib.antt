-- A balanced tree of height h has at least fib (h + 2) pieces.
use Rattle.std.proofs.Common.{◌≡◌, ℕ, zero, suc, ◌+◌, ◌<◌, ◌≤◌, max, List, ⊎_elim, le_trans, add_comm, add-one, arith}
use native.Mathlib.Numerals.{add-two}
use Rattle.std.proofs.lemmas.Bool.{cases_lt}
use Rattle.tree.specs.Tree.{Tree, piece, node, height, size, pieces, Balanced, Within}
use Rattle.tree.specs.Fib.{fib}

fib_rises : (n : ℕ) → fib n ≤ fib (suc n)
fib_rises zero = omega arith
fib_rises (suc n) = omega arith

pub fib_mono : (m n : ℕ) → m ≤ n → fib m ≤ fib n
fib_mono m zero h = let e : m ≡ 0 = omega arith in rw e (omega arith)
fib_mono m (suc n) h = ⊎_elim (λ l. le_trans (fib_mono m n (omega arith)) (fib_rises n))
    (λ (l : suc n ≤ m). let e : m ≡ suc n = omega arith in rw e (omega arith)) (cases_lt m (suc n))

-- a node's two sides: the higher one, and the other
add_up : (h a b x y : ℕ) → h ≤ a → h ≤ b + 1 → fib (suc (suc a)) ≤ x → fib (suc (suc b)) ≤ y → fib (suc (suc (h + 1))) ≤ x + y
add_up h a b x y h1 h2 p q = rw add-one (omega (arith, fib_mono (suc (suc h)) (suc (suc a)) (omega arith), fib_mono (suc h) (suc (suc b)) (omega arith)))

fewest : (t : Tree) → Balanced t → fib (suc (suc (height t))) ≤ pieces t
fewest (piece s k i m) bt = omega arith
fewest (node s l r) bt = ⊎_elim
    (λ c. rw (add_comm (pieces l) (pieces r)) (add_up (max (height l) (height r)) (height r) (height l) _ _ (omega arith) (omega arith) (fewest r bt.3) (fewest l bt.2)))
    (λ c. add_up (max (height l) (height r)) (height l) (height r) _ _ (omega arith) (omega arith) (fewest l bt.2) (fewest r bt.3))
    (cases_lt (height l) (height r))

pub fib_pieces : (t : Tree) → Balanced t → fib (height t + 2) ≤ pieces t
fib_pieces t bt = rw add-two (fewest t bt)

pub pieces_size : (texts : List (List ℕ)) (t : Tree) → Within texts t → pieces t ≤ size t
pieces_size texts (piece s k i m) w = omega arith
pieces_size texts (node s l r) w = omega (arith, pieces_size texts l w.0, pieces_size texts r w.1)

-- the height under a limit on the length
pub height_under : (limit h : ℕ) (texts : List (List ℕ)) (t : Tree) → limit < fib (h + 3) → Balanced t → Within texts t → size t ≤ limit → height t ≤ h
height_under limit h texts t f bt w z = ⊎_elim
    (λ c. absurd (omega (arith, fib_mono (h + 3) (height t + 2) (omega arith), fib_pieces t bt, pieces_size texts t w)))
    (λ c. c) (cases_lt h (height t))
