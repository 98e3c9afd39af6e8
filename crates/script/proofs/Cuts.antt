-- The first line of what is left of a script.
use Rattle.std.proofs.Common.{◌≡◌, ℕ, ◌+◌, ◌<◌, ◌≤◌, cond, not, List, [], ◌∷◌, length, drop, sym, refl, ap, ◌∙◌, arith, length-drop}
use Rattle.std.specs.List.{position_or_len}
use Rattle.std.proofs.lemmas.List.{drop-drop}
use Rattle.std.proofs.lemmas.Bool.{eq-eqb, ne_eqb}
use Rattle.script.specs.declared.lines.Line.{Line}
use Rattle.script.specs.Lines.{ends_line, cut, lines_from}
use Rattle.script.proofs.Firsts.{bool_cases}

abbrev line : (number start end : ℕ) → Line
line number start end = record { number = number; start = start; end = end }

-- a line that has a byte or an end goes up to the first end
cut_first : (number start place : ℕ) (bytes : List ℕ) → start ≤ place → start < place + length bytes →
    (n : ℕ) → n ≡ position_or_len ends_line bytes →
    cut number start place bytes ≡ line number start (place + n) ∷ cut (number + 1) (place + n + 1) (place + n + 1) (drop (n + 1) bytes)
cut_first number start place [] h some n e =
    let none : n ≡ 0 = e in
    rw none (
    let here : place + 0 ≡ place = omega arith in
    ap (λ b. cond b [] (line number start place ∷ [])) (ne_eqb start place (λ same. omega arith))
    ∙ ap (λ j. line number start j ∷ []) (sym here)
    ∙ ap (λ b. line number start (place + 0) ∷ cond b [] (line (number + 1) (place + 0 + 1) (place + 0 + 1) ∷ [])) (sym (eq-eqb (place + 0 + 1) (place + 0 + 1) refl)))
cut_first number start place (byte ∷ bytes) h some n e =
    bool_cases (ends_line byte)
    (λ b. n ≡ cond (not b) (1 + position_or_len ends_line bytes) 0 →
    cond b (line number start place ∷ cut (number + 1) (place + 1) (place + 1) bytes) (cut number start (place + 1) bytes)
    ≡ line number start (place + n) ∷ cut (number + 1) (place + n + 1) (place + n + 1) (drop (n + 1) (byte ∷ bytes)))
    (λ t (k : n ≡ 0). let here : place + 0 ≡ place = omega arith in rw (k, here) refl)
    (λ f k.
    let m = position_or_len ends_line bytes in
    let next : place + 1 + m ≡ place + n = omega arith in
    cut_first number start (place + 1) bytes (omega arith) (omega arith) m refl
    ∙ ap (λ j. line number start j ∷ cut (number + 1) (j + 1) (j + 1) (drop (m + 1) bytes)) next
    ∙ ap (λ l. line number start (place + n) ∷ cut (number + 1) (place + n + 1) (place + n + 1) l)
    (drop-drop (m + 1) 1 (byte ∷ bytes) ∙ ap (λ j. drop j (byte ∷ bytes)) (let last : 1 + (m + 1) ≡ n + 1 = omega arith in last)))
    e

pub first_line : (script : List ℕ) (number start len : ℕ) → start < length script → len ≡ position_or_len ends_line (drop start script) →
    lines_from number start script ≡ line number start (start + len) ∷ lines_from (number + 1) (start + len + 1) script
first_line script number start len h e =
    let next : start + (len + 1) ≡ start + len + 1 = omega arith in
    cut_first number start start (drop start script) (omega arith) (simp length-drop (omega arith)) len e
    ∙ ap (λ l. line number start (start + len) ∷ cut (number + 1) (start + len + 1) (start + len + 1) l) (drop-drop (len + 1) start script ∙ ap (λ n. drop n script) next)
