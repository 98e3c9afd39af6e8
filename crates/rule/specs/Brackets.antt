-- The meaning of the rule Brackets.
use Rattle.std.specs.Prelude.{◌≡◌, ℕ, ◌+◌, ◌-◌, cond, ◌≢◌, List, ◌∷◌, ◌++◌, replicate, fold, ◌==◌}
use Rattle.rule.specs.declared.brackets.Unmatched.{Unmatched}
use Rattle.rule.specs.Rule.{saturating_sum}

-- the count at first
abbrev pub none : Unmatched
none = record { closings = 0; openings = 0 }

-- "(" adds an opening
abbrev pub opened : Unmatched → Unmatched
opened u = record { closings = u.closings; openings = u.openings + 1 }

-- ")" takes an opening away, or adds a closing where there is no opening
abbrev pub closed : Unmatched → Unmatched
closed u =
    cond
    (u.openings == 0)
    (record { closings = u.closings + 1; openings = 0 })
    (record { closings = u.closings; openings = u.openings - 1 })

-- one byte more at the end: 40 is "(", 41 is ")", and others change nothing
abbrev pub next : Unmatched → ℕ → Unmatched
next u b = cond (b == 40) (opened u) (cond (b == 41) (closed u) u)

-- the unmatched brackets of a string, read from left to right
abbrev pub unmatched : List ℕ → Unmatched
unmatched bytes = fold next none bytes

-- What `join` answers on any two values: the closings of the second first close the openings of the first.
abbrev pub joined_unmatched : Unmatched → Unmatched → Unmatched
joined_unmatched u v =
    record {
      closings = saturating_sum u.closings (v.closings - u.openings);
      openings = saturating_sum v.openings (u.openings - v.closings);
    }

-- The value is what remains when matched brackets are deleted.
-- What allows no deletion is closings followed by openings, so these equations fix the value of every string.
pub record Cancelling : Type 0 where
  -- a "(" and the ")" right behind it can be deleted
  pub pair : (x y : List ℕ) → unmatched (x ++ (40 ∷ (41 ∷ y))) ≡ unmatched (x ++ y)
  -- a byte that is no bracket can be deleted
  pub other : (x : List ℕ) (b : ℕ) (y : List ℕ) → b ≢ 40 → b ≢ 41 → unmatched (x ++ (b ∷ y)) ≡ unmatched (x ++ y)
  -- of closings followed by openings the value is their numbers
  pub rest : (u : Unmatched) → unmatched (replicate u.closings 41 ++ replicate u.openings 40) ≡ u
