-- The first token of what is left of a line.
use Rattle.std.proofs.Common.{◌≡◌, ℕ, ◌+◌, ◌-◌, ◌<◌, ◌≤◌, Bool, true, false, not, ◌&&◌, cond, eqb, List, [], ◌∷◌, length, get_or, take, drop, sym, refl, ap, ◌∙◌, inl, inr, arith, length-drop}
use Rattle.std.specs.List.{position_or_len}
use Rattle.std.proofs.lemmas.List.{at_drop_all, drop-drop, take_all, get_or-drop}
use Rattle.std.proofs.lemmas.List.Sums.{prefix_len_stops}
use Rattle.std.proofs.lemmas.Bool.{and_parts, cases_lt}
use Rattle.script.specs.Tokens.{is_space, quote, scan, between, within, ends, turned, tokens_from}
use Rattle.script.proofs.Firsts.{bool_cases}

abbrev pub other : ℕ → Bool
other byte = not (is_space byte)

-- the reader steps over spaces
blanks : (place : ℕ) (bytes : List ℕ) (n : ℕ) → n ≡ position_or_len other bytes → scan between place bytes ≡ scan between (place + n) (drop n bytes)
blanks place [] n e = rw (let none : n ≡ 0 = e in none) refl
blanks place (byte ∷ bytes) n e =
    bool_cases (is_space byte)
    (λ b. n ≡ cond (not (not b)) (1 + position_or_len other bytes) 0 →
    cond b (scan between (place + 1) bytes) (scan (within place (eqb byte quote)) (place + 1) bytes) ≡ scan between (place + n) (drop n (byte ∷ bytes)))
    (λ t k.
    let m = position_or_len other bytes in
    let next : place + 1 + m ≡ place + n = omega arith in
    let more : 1 + m ≡ n = omega arith in
    blanks (place + 1) bytes m refl ∙ ap (λ j. scan between j (drop m bytes)) next ∙ ap (scan between (place + n)) (drop-drop m 1 (byte ∷ bytes) ∙ ap (λ j. drop j (byte ∷ bytes)) more))
    (λ f (k : n ≡ 0).
    let here : place + 0 ≡ place = omega arith in
    rw (k, here) (ap (λ b. cond b (scan between (place + 1) bytes) (scan (within place (eqb byte quote)) (place + 1) bytes)) (sym f)))
    e

not_not : (b : Bool) → b ≡ not (not b)
not_not true = refl
not_not false = refl

is_quote : (b : Bool) → b ≡ cond b true false
is_quote true = refl
is_quote false = refl

-- a token begins at a byte that is no space
begins : (start : ℕ) (bytes : List ℕ) → 0 < length bytes → is_space (get_or bytes 0 0) ≡ false → scan between start bytes ≡ scan (within start false) (start + 0) bytes
begins start [] some e = absurd (omega arith)
begins start (byte ∷ bytes) some e =
    let here : start + 0 ≡ start = omega arith in
    rw here (
    ap (λ b. cond b (scan between (start + 1) bytes) (scan (within start (eqb byte quote)) (start + 1) bytes)) e
    ∙ ap (λ q. scan (within start q) (start + 1) bytes) (is_quote (eqb byte quote))
    ∙ ap (λ b. cond (b && true) (record { start = start; end = start } ∷ scan between (start + 1) bytes) (scan (within start (turned false byte)) (start + 1) bytes)) (sym e))

module _ (text : List ℕ) (from n : ℕ) (h : from ≤ length text) (e : n ≡ position_or_len other (take (length text - from) (drop from text))) where
  n_is : n ≡ position_or_len other (drop from text)
  n_is = e ∙ ap (position_or_len other) (take_all (length text - from) (drop from text) (simp length-drop (omega arith)))

  over_blanks : tokens_from from text ≡ tokens_from (from + n) text
  over_blanks = blanks from (drop from text) n n_is ∙ ap (scan between (from + n)) (drop-drop n from text)

  pub all_blank : length text ≤ from + n → tokens_from from text ≡ []
  all_blank k = over_blanks ∙ at_drop_all (scan between (from + n)) text (from + n) k

  module _ (k : from + n < length text) where
    rest_is : take (length text - (from + n)) (drop (from + n) text) ≡ drop (from + n) text
    rest_is = take_all (length text - (from + n)) (drop (from + n) text) (simp length-drop (omega arith))

    pub at_other : is_space (get_or (take (length text - (from + n)) (drop (from + n) text)) 0 0) ≡ false
    at_other =
        let here : from + n + 0 ≡ from + n = omega arith in
        let long : length (drop from text) ≡ length text - from = length-drop from text in
        ap (λ l. is_space (get_or l 0 0)) rest_is
        ∙ ap is_space (get_or-drop (from + n) text 0 0 ∙ ap (λ j. get_or text j 0) here ∙ sym (get_or-drop from text n 0) ∙ ap (λ j. get_or (drop from text) j 0) n_is)
        ∙ not_not (is_space (get_or (drop from text) (position_or_len other (drop from text)) 0))
        ∙ prefix_len_stops (λ x. not (other x)) (drop from text) 0 (omega (arith, n_is))

    pub at_first : tokens_from from text ≡ scan (within (from + n) false) (from + n + 0) (take (length text - (from + n)) (drop (from + n) text))
    at_first = over_blanks ∙ ap (scan between (from + n)) (sym rest_is) ∙ begins (from + n) (take (length text - (from + n)) (drop (from + n) text)) (rw rest_is (simp length-drop (omega arith))) at_other

-- a token that ends has a byte
pub ends_later : (bytes : List ℕ) (i : ℕ) (quoted : Bool) → is_space (get_or bytes 0 0) ≡ false → true ≡ ends quoted (get_or bytes i 0) → 0 < i
ends_later bytes i quoted e t =
    elim (cases_lt 0 i) [
      | inl h ↦ h
      | inr h ↦
          let none : i ≡ 0 = omega arith in
          let yes : is_space (get_or bytes 0 0) ≡ true = ap (λ j. is_space (get_or bytes j 0)) (sym none) ∙ (and_parts _ _ (sym t)).0 in
          absurd (let z : true ≡ false = sym yes ∙ e in cc)
    ]
