-- A stretch that is read block by block.
use Rattle.std.proofs.Common.{◌≡◌, ℕ, ◌+◌, ◌-◌, ◌≤◌, List, length, take, drop, Ok, Result, ap, ◌∙◌, ap₂, arith, length-drop, length-take}
use Rattle.std.proofs.lemmas.List.{drop-drop}
use Rattle.shelf.specs.Texts.{stretch, limit}
use Rattle.rule.specs.Rule.{Joins}
use Rattle.rule.proofs.Joining.{block_joins}
use Rattle.sheet.proofs.Told.{told}

-- the value of `done` bytes and that of a block of `count` bytes more
pub one_more : {V E : Type 0} (value : List ℕ → V) (joined : V → V → V) → Joins value joined →
    (bytes : List ℕ) (from done count end : ℕ) (block : List ℕ) {v more : V} → length bytes ≤ limit → count ≤ length block → done + count ≡ end →
    v ≡ value (stretch from done bytes) → ◌≡◌ {A = Result V E} (Ok more) (Ok (value (stretch (from + done) (length (take (count - 0) block)) bytes))) →
    joined v more ≡ value (stretch from end bytes)
one_more value joined law bytes from done count end block short fits e a b =
    let part : length (take (count - 0) block) ≡ count = simp length-take (omega arith) in
    let next : stretch (from + done) (length (take (count - 0) block)) bytes ≡ take count (drop done (drop from bytes)) = rw (part, drop-drop done from bytes) in
    ap₂ joined a (told b ∙ ap value next)
    ∙ block_joins value joined law (drop from bytes) done count (simp length-drop (omega arith))
    ∙ ap (λ n. value (stretch from n bytes)) e
