-- What the law of joining says of a string that is taken apart.
use Rattle.std.proofs.Common.{◌≡◌, ℕ, ◌+◌, ◌≤◌, List, [], ◌∷◌, ◌++◌, length, take, drop, fold, sym, ap, ◌∙◌, append_assoc, append-nil, arith, length-append, length-drop, length-take, take-add}
use Rattle.shelf.specs.Texts.{limit}
use Rattle.rule.specs.Rule.{Joins, joined_bytes}

module _ {V : Type 0} (value : List ℕ → V) (joined : V → V → V) (law : Joins value joined) where
  -- bytes joined one by one behind a string
  behind : (front bytes : List ℕ) →
      length front + length bytes ≤ limit →
      fold (λ v b. joined v (value (b ∷ []))) (value front) bytes ≡ value (front ++ bytes)
  behind front [] short = ap value (sym (append-nil front))
  behind front (b ∷ bytes) short =
      ap (λ v. fold (λ v b. joined v (value (b ∷ []))) v bytes) (law front (b ∷ []) (omega arith))
      ∙ behind (front ++ (b ∷ [])) bytes (simp length-append (omega arith))
      ∙ ap value (append_assoc front (b ∷ []) bytes)

  pub bytes_join : (bytes : List ℕ) → length bytes ≤ limit → joined_bytes value joined bytes ≡ value bytes
  bytes_join bytes short = behind [] bytes (omega arith)

  -- one block more: the step of a loop that reads a string in blocks
  pub block_joins : (bytes : List ℕ) (done count : ℕ) →
      length bytes ≤ limit →
      joined (value (take done bytes)) (value (take count (drop done bytes))) ≡ value (take (done + count) bytes)
  block_joins bytes done count short =
      law (take done bytes) (take count (drop done bytes)) (simp (length-take, length-drop) (omega arith))
      ∙ ap value (sym (take-add done count bytes))
