-- A list of trees that was written from nothing, one tree after the other.
use Rattle.std.proofs.Common.{◌≡◌, ℕ, zero, suc, ◌+◌, ◌<◌, List, [], ◌∷◌, ◌++◌, length, get_or, take, drop, subst, append_assoc, append-nil, arith, take-append-drop}
use Rattle.std.proofs.lemmas.List.{take-take, take_more}
use Rattle.std.proofs.ByRecursion.{All-get_or}
use Rattle.tree.specs.Tree.{Tree, piece, node, slot}
use Rattle.tree.specs.Stored.{Held, Stored, Fresh, Grows}
use Rattle.tree.proofs.Store.{stored_more, stored_last, all_stored}

-- the tree of every slot is stored
pub stored_at : (trees : List Tree) → Grows [] trees → (j : ℕ) (d : Tree) → j < length trees → Stored trees (get_or trees j d)
stored_at trees g j d h = All-get_or (Stored trees) trees j d h (all_stored [] trees g)

-- the first slots are a list of that kind too
pub grows_take : (trees new : List Tree) (n : ℕ) → Grows trees new → Grows trees (take n new)
grows_take trees new zero g = tt
grows_take trees [] (suc n) g = tt
grows_take trees (t ∷ new) (suc n) g = (g.0, grows_take (trees ++ t ∷ []) new n g.1)

-- each tree was for the next slot when it was written
pub fresh_at : (base new : List Tree) → Grows base new → (j : ℕ) (d : Tree) → j < length new → Fresh (base ++ take j new) (get_or new j d)
fresh_at base [] g j d h = absurd (omega arith)
fresh_at base (t ∷ new) g zero d h = rw append-nil g.0
fresh_at base (t ∷ new) g (suc j) d h = rw append_assoc at (fresh_at (base ++ t ∷ []) new g.1 j d (omega arith))

pub held : (trees : List Tree) (t : Tree) → Stored trees t → Held trees t
held trees (piece s k i m) h = h
held trees (node s l r) h = h.0

-- a stored tree whose slot is among the first is stored there
pub stored_take : (trees : List Tree) → Grows [] trees → (n : ℕ) (t : Tree) → Stored trees t → slot t < n → Stored (take n trees) t
stored_take trees g n t s h =
    let f : Fresh (take (slot t) trees) t = rw ((held trees t s).1 t) at (fresh_at [] trees g (slot t) t (held trees t s).0) in
    let e : take (slot t + 1) trees ++ drop (slot t + 1) (take n trees) ≡ take n trees = rw (← take-take (slot t + 1) n trees (omega arith)) (take-append-drop _ _) in
    subst (λ (x : List Tree). Stored x t) e
    (stored_more (take (slot t + 1) trees) _ t (rw (take_more trees (slot t) t (held trees t s).0, (held trees t s).1 t) (stored_last (take (slot t) trees) t f)))
