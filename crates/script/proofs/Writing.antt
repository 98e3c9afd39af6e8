-- What a buffer holds after writes, one after the other.
use Rattle.std.proofs.Common.{◌≡◌, ℕ, ◌+◌, ◌-◌, ◌≤◌, List, ◌++◌, length, take, drop, sym, ap, ◌∙◌, append_assoc, arith, length-append}
use Rattle.std.proofs.lemmas.List.{drop-drop}
use Rattle.script.specs.declared.buffer.Writer.{Writer}
use Rattle.script.specs.Buffers.{Written, Wrote}

-- what is alike from a place on is alike from a later place on
drop_later : (xs ys : List ℕ) (m n : ℕ) → m ≤ n → drop m xs ≡ drop m ys → drop n xs ≡ drop n ys
drop_later xs ys m n h e =
    let k : m + (n - m) ≡ n = omega arith in
    ap (λ j. drop j xs) (sym k) ∙ sym (drop-drop (n - m) m xs) ∙ ap (drop (n - m)) e ∙ drop-drop (n - m) m ys ∙ ap (λ j. drop j ys) k

-- two writes, the second behind the first
pub and_then : {at mid end : ℕ} {xs ys out out' out'' : List ℕ} → Written at xs out out' mid → Written mid ys out' out'' end → Written at (xs ++ ys) out out'' end
and_then {at} {mid} {end} {xs} {ys} {out} {out'} {out''} w v = record {
  ends = v.ends ∙ ap (λ j. j + length ys) w.ends ∙ simp length-append (omega arith);
  front = v.front ∙ ap (λ l. l ++ ys) w.front ∙ append_assoc (take at out) xs ys;
  behind = v.behind ∙ drop_later out' out mid end (omega (arith, v.ends)) w.behind;
}

-- a write of bytes that are written otherwise
pub alike : {at end : ℕ} {xs ys out out' : List ℕ} → xs ≡ ys → Written at xs out out' end → Written at ys out out' end
alike {at} {end} {xs} {ys} {out} {out'} e w = rw e at w

-- two writes of one writer
pub both_wrote : {xs ys : List ℕ} {w w' w'' : Writer} → Wrote xs w w' → Wrote ys w' w'' → Wrote (xs ++ ys) w w''
both_wrote f g = record { wrote = and_then f.wrote g.wrote; long = g.long ∙ f.long; same = g.same ∙ f.same }

pub wrote_alike : {xs ys : List ℕ} {w w' : Writer} → xs ≡ ys → Wrote xs w w' → Wrote ys w w'
wrote_alike e f = record { wrote = alike e f.wrote; long = f.long; same = f.same }
