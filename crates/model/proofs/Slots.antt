-- The trees of the slots in use: written one after the other, each over earlier ones.
use Rattle.std.proofs.Common.{◌≡◌, ℕ, zero, suc, ◌<◌, ◌≤◌, min, List, [], ◌∷◌, ◌++◌, length, get_or, take, drop, Some, None, Option, sym, ap, ◌∙◌, subst, arith, take-append-drop, length-take, take_all, get_or-take, take-take}
use lib.Seq.{take-append_seam}
use Rattle.std.specs.List.{AllByRecursion}
use Rattle.tree.specs.Tree.{Tree, piece, node, slot}
use Rattle.tree.specs.Stored.{Stored, Grows}
use Rattle.tree.specs.Edits.{Fit}
use Rattle.tree.proofs.Store.{stored_more}
use Rattle.tree.proofs.Heap.{stored_take}
use Rattle.shelf.specs.Texts.{limit}
use Rattle.model.specs.Table.{CoveredTree}

module _ {A : Type 0} where
  -- us goes on from ts
  abbrev pub Extends : List A → List A → Type 0
  Extends ts us = take (length ts) us ≡ ts

  pub extends_refl : (ts : List A) → Extends ts ts
  extends_refl ts = take_all (length ts) ts (omega arith)

  pub extends_append : (ts new : List A) → Extends ts (ts ++ new)
  extends_append ts new = take-append_seam ts new

  pub extends_length : (ts us : List A) → Extends ts us → length ts ≤ length us
  extends_length ts us e =
      let l : min (length ts) (length us) ≡ length ts = sym (length-take (length ts) us) ∙ ap length e in omega arith

  -- a front stays the same
  pub extends_front : (ts us : List A) (n : ℕ) → Extends ts us → n ≤ length ts → take n us ≡ take n ts
  extends_front ts us n e h = sym (take-take n (length ts) us h) ∙ ap (take n) e

  pub extends_trans : (ts us vs : List A) → Extends ts us → Extends us vs → Extends ts vs
  extends_trans ts us vs e f = extends_front us vs (length ts) f (extends_length ts us e) ∙ e

  pub extends_take : (n : ℕ) (ts : List A) → n ≤ length ts → Extends (take n ts) ts
  extends_take n ts h =
      let l : length (take n ts) ≡ n = length-take n ts ∙ omega arith in ap (λ (k : ℕ). take k ts) l

  pub get_or_extends : (ts us : List A) (i : ℕ) (d : A) → Extends ts us → i < length ts → get_or us i d ≡ get_or ts i d
  get_or_extends ts us i d e h = sym (get_or-take (length ts) us i d h) ∙ ap (λ (x : List A). get_or x i d) e

pub stored_extends : (ts us : List Tree) (t : Tree) → Extends ts us → Stored ts t → Stored us t
stored_extends ts us t e h =
    let p : ts ++ drop (length ts) us ≡ us = ap (λ (x : List Tree). x ++ drop (length ts) us) (sym e) ∙ take-append-drop (length ts) us in
    subst (λ (x : List Tree). Stored x t) p (stored_more ts (drop (length ts) us) t h)

pub covered_from : (n : ℕ) (ts : List Tree) (t : Tree) → length ts ≤ n → Stored ts t → CoveredTree n t
covered_from n ts (piece s k i m) l h = omega (arith, h.0)
covered_from n ts (node s a b) l h = (omega (arith, h.0.0), covered_from n ts a l h.1, covered_from n ts b l h.2)

pub covered_more : (m n : ℕ) (t : Tree) → m ≤ n → CoveredTree m t → CoveredTree n t
covered_more m n (piece s k i j) l h = omega arith
covered_more m n (node s a b) l h = (omega arith, covered_more m n a l h.1, covered_more m n b l h.2)

module _ (texts : List (List ℕ)) where
  pub fit_extends : (ts us : List Tree) (o : Option Tree) → Extends ts us → Fit texts limit ts o → Fit texts limit us o
  fit_extends ts us None e w = tt
  fit_extends ts us (Some t) e w = (w.0, stored_extends ts us t e w.1)

  pub fit_version : (ts : List Tree) (versions : List (Option Tree)) (v : ℕ) → AllByRecursion (Fit texts limit ts) versions → Fit texts limit ts (get_or versions v None)
  fit_version ts [] v a = tt
  fit_version ts (o ∷ os) zero a = a.0
  fit_version ts (o ∷ os) (suc v) a = fit_version ts os v a.1

-- of trees in slots, the root has the last slot: to see that a tree is covered, look at its root alone
pub covered_by_root : (ts : List Tree) (n : ℕ) (t : Tree) → Grows [] ts → Stored ts t → slot t < n → CoveredTree n t
covered_by_root ts n t g st l = covered_from n (take n ts) t (simp length-take (omega arith)) (stored_take ts g n t st l)
