-- Summary rules: the law of joining, joining byte by byte, and the sums that both rules join by.
use Rattle.std.specs.Prelude.{◌≡◌, ℕ, ◌+◌, ◌-◌, ◌^◌, ◌≤◌, min, List, [], ◌∷◌, ◌++◌, length, fold}
use Rattle.shelf.specs.Texts.{limit}

-- The law: the values of two strings, together within the limit, join to the value of the first followed by the second.
-- It is owed for all lists of numbers, since a meaning says something of numbers that are no bytes too.
abbrev pub Joins : {V : Type 0} → (List ℕ → V) → (V → V → V) → Type 0
Joins value joined =
    (x y : List ℕ) → length x + length y ≤ limit → joined (value x) (value y) ≡ value (x ++ y)

-- the values of the single bytes, joined to that of the empty string one after the other
abbrev pub joined_bytes : {V : Type 0} → (List ℕ → V) → (V → V → V) → List ℕ → V
joined_bytes value joined bytes = fold (λ v b. joined v (value (b ∷ []))) (value []) bytes

-- the sum of two numbers of 32 bits, or the greatest such number where the sum is above it
abbrev pub saturating_sum : ℕ → ℕ → ℕ
saturating_sum m n = min (m + n) (2 ^ 32 - 1)
