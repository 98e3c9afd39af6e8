-- A sheet: one value for each slot, by a summary rule, and what each call on it answers and leaves.
use Rattle.std.specs.Prelude.{ℕ, zero, suc, ◌+◌, ◌-◌, max, Bool, true, cond, not, ◌&&◌, List, [], ◌∷◌, ◌++◌, length, Some, None, Option, ◌==◌, nat_le, nat_lt, slice_index_or, slice_set}
use Rattle.shelf.specs.Texts.{text, stretch}
use Rattle.tree.specs.Tree.{Tree, piece, node, slot, size}
use Rattle.model.specs.Calls.{SheetCall, bring_up, summary}
use Rattle.model.specs.Answers.{Answer, SheetTold, unless}
use Rattle.model.specs.Rows.{first_row, sheet_rows}
use Rattle.model.specs.Book.{Book, version, settled, lengths_of, same}

-- The value of each string, and how two values join.
pub record Rule (V : Type 0) : Type 0 where
  pub value : List ℕ → V
  pub joined : V → V → V

-- A value for each slot; the slots below `covered` have theirs.
pub record Sheet (V : Type 0) : Type 0 where
  pub values : List V
  pub covered : ℕ

-- a new sheet covers nothing
abbrev pub new_sheet : {V : Type 0} → List V → Sheet V
new_sheet values = record { values = values; covered = 0 }

-- every slot of the tree is below n
abbrev pub covers_tree : ℕ → Tree → Bool
covers_tree n (piece s k i m) = nat_lt s n
covers_tree n (node s l r) = nat_lt s n && (covers_tree n l && covers_tree n r)

abbrev pub covers : ℕ → Option Tree → Bool
covers n None = true
covers n (Some t) = covers_tree n t

-- the rows that sheets and shelves decide
abbrev pub sheet_own_rows : {V : Type 0} → Book → Sheet V → SheetCall → List (ℕ × Bool)
sheet_own_rows b t (bring_up shown) = (16, nat_lt (length t.values) (settled b)) ∷ (17, not (same shown b.lengths)) ∷ []
sheet_own_rows b t (summary v from len shown) =
    (15, not (covers t.covered (version b v))) ∷ (17, not (same shown b.lengths)) ∷ []

module _ {V : Type 0} (texts : List (List ℕ)) (rule : Rule V) where
  abbrev pub value_at : List V → ℕ → V
  value_at values n = slice_index_or values n (rule.value [])

  -- the value of a tree, from those of its sides
  abbrev pub tree_value : List V → Tree → V
  tree_value values (piece s k i m) = rule.value (stretch i m (text texts k))
  tree_value values (node s l r) = rule.joined (value_at values (slot l)) (value_at values (slot r))

  -- `count` slots more have their values, from slot n on
  abbrev pub filled : List Tree → List V → (n count : ℕ) → List V
  filled slots values n zero = values
  filled slots values n (suc count) =
      filled slots (slice_set values n (tree_value values (slice_index_or slots n (piece 0 0 0 0)))) (suc n) count

  -- the value of a stretch; a tree that lies in it whole is not entered
  abbrev pub stretch_value : List V → Tree → (from len : ℕ) → V
  stretch_value values (piece s k i m) from len =
      cond (from == 0 && len == m) (value_at values s) (rule.value (stretch (i + from) len (text texts k)))
  stretch_value values (node s l r) from len =
      cond (from == 0 && len == size l + size r) (value_at values s)
      (cond (nat_le (from + len) (size l)) (stretch_value values l from len)
      (cond (nat_le (size l) from) (stretch_value values r (from - size l) len)
      (rule.joined (stretch_value values l from (size l - from)) (stretch_value values r 0 (from + len - size l)))))

  abbrev pub version_value : List V → Option Tree → (from len : ℕ) → V
  version_value values None from len = rule.value []
  version_value values (Some t) from len = stretch_value values t from len

  -- what an accepted call tells and leaves
  abbrev pub sheet_effect : Book → Sheet V → SheetCall → SheetTold V × Sheet V
  sheet_effect b t (bring_up shown) =
      let count = settled b - t.covered in
      (SheetTold.added count, record { values = filled b.slots t.values t.covered count; covered = max t.covered (settled b) })
  sheet_effect b t (summary v from len shown) = (SheetTold.value (version_value t.values (version b v) from len), t)

  abbrev pub sheet_step : Book → Sheet V → SheetCall → Answer (SheetTold V) × Sheet V
  sheet_step b t c = unless (first_row (sheet_rows (lengths_of b) c ++ sheet_own_rows b t c)) t (sheet_effect b t c)
