-- The text of a ring by stretches of its memory.
use Rattle.std.proofs.Common.{◌≡◌, ℕ, ◌+◌, ◌-◌, ◌%◌, ◌<◌, ◌≤◌, min, List, ◌++◌, length, get_or, take, drop, sym, ap, ◌∙◌, ⊎_elim, mod-eq_of_lt, arith, length-append, length-drop, length-take, rules}
use native.Mathlib.Nat.{mod-add-mod, mod-eq-sub-mod}
use borrow.Rule.Slice.PartMut.{put_mid, post_of}
use Rattle.std.proofs.lemmas.List.FromFn.{get_or-map-range_with_len}
use Rattle.std.proofs.lemmas.List.{places, same_lists, get_or_append_left, get_or-append_right, get_or-take, get_or-drop, get_or_default}
use Rattle.std.proofs.lemmas.Bool.{cases_lt}
use Rattle.shelf.specs.Fits.{length_ring}
use Rattle.shelf.specs.Kinds.{ring_text}
use Rattle.shelf.specs.Texts.{stretch}

-- two parts of a buffer that are written one after the other
pub both_parts : (front : ℕ) (out xs ys : List ℕ) → front ≤ length out → length xs ≡ front → length ys ≡ length out - front →
    put_mid front (length out - front) (xs ++ post_of 0 (front - 0) out) ys ≡ xs ++ ys
both_parts front out xs ys h e f = same_lists _ _ (search (rules, places)) (λ k d l. grind (arith, places))

-- the memory place of byte from + i of a ring's text, where `at` is that of byte `from`
place_round : (m start from i at : ℕ) → at ≡ (start % m + from) % m → (start + (from + i)) % m ≡ (at + i) % m
place_round m start from i at e =
    let regroup : start % m + (from + i) ≡ start % m + from + i = omega arith in
    sym (mod-add-mod start m (from + i)) ∙ ap (λ x. x % m) regroup ∙ sym (mod-add-mod (start % m + from) m i) ∙ ap (λ x. (x + i) % m) (sym e)

-- byte from + i of a ring's text
byte_round : (memory : List ℕ) (start from i at d : ℕ) → at ≡ (start % length memory + from) % length memory → from + i < length memory →
    get_or (ring_text memory start) (from + i) d ≡ get_or memory ((at + i) % length memory) 0
byte_round memory start from i at d e h =
    get_or-map-range_with_len (λ j. get_or memory ((start + j) % length memory) 0) 0 (length memory) (from + i) (from + i) d h (omega arith)
    ∙ ap (λ p. get_or memory p 0) (place_round (length memory) start from i at e)

module _ (memory : List ℕ) (start from n at front : ℕ) (e : at ≡ (start % length memory + from) % length memory) (in_memory : at < length memory)
    (fits : from + n ≤ length memory) (f : front ≡ min n (length memory - at)) where
  long : length (stretch at front memory) ≡ front
  long = simp (length-take, length-drop) (omega arith)

  before : (i d : ℕ) → i < n → i < front → get_or (stretch at front memory ++ take (n - front) memory) i d ≡ get_or memory ((at + i) % length memory) 0
  before i d h l =
      get_or_append_left (stretch at front memory) (take (n - front) memory) d i (omega (arith, long))
      ∙ get_or-take front (drop at memory) i d l
      ∙ get_or-drop at memory i d
      ∙ get_or_default memory (at + i) d 0 (omega arith)
      ∙ ap (λ p. get_or memory p 0) (sym (mod-eq_of_lt (omega arith)))

  behind : (i d : ℕ) → i < n → front ≤ i → get_or (stretch at front memory ++ take (n - front) memory) i d ≡ get_or memory ((at + i) % length memory) 0
  behind i d h l =
      let once : (at + i) % length memory ≡ i - front =
      mod-eq-sub-mod (omega arith) ∙ mod-eq_of_lt (omega arith) ∙ omega arith in
      get_or-append_right (stretch at front memory) (take (n - front) memory) front i d long l
      ∙ get_or-take (n - front) memory (i - front) d (omega arith)
      ∙ get_or_default memory (i - front) d 0 (omega arith)
      ∙ ap (λ p. get_or memory p 0) (sym once)

  within : (i d : ℕ) → i < n → get_or (stretch from n (ring_text memory start)) i d ≡ get_or memory ((at + i) % length memory) 0
  within i d h =
      get_or-take n (drop from (ring_text memory start)) i d h
      ∙ get_or-drop from (ring_text memory start) i d
      ∙ byte_round memory start from i at d e (omega arith)

  -- a stretch of a ring's text is one stretch of its memory, or two
  pub stretch_round : stretch at front memory ++ take (n - front) memory ≡ stretch from n (ring_text memory start)
  stretch_round =
      let all : length (stretch at front memory ++ take (n - front) memory) ≡ n = simp (length-append, length-take, length-drop) (omega arith) in
      let same : length (stretch from n (ring_text memory start)) ≡ n = simp (length-take, length-drop) (omega (arith, length_ring memory start)) in
      same_lists _ _ (all ∙ sym same)
      (λ i d h. ⊎_elim (before i d (omega arith)) (behind i d (omega arith)) (cases_lt i front) ∙ sym (within i d (omega arith)))
