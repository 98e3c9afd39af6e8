-- What a copy leaves in its buffer, by its answer.
use Rattle.std.proofs.Common.{◌≡◌, ℕ, zero, suc, ◌+◌, ◌-◌, ◌<◌, ◌≤◌, min, true, false, cond, ltb, leb, List, [], ◌∷◌, length, take, drop, is_ok, Ok, Err, Option, Result, unwrap_or, sym, refl, ap, ◌∙◌, ⊎_elim, arith, length-append, length-take}
use Rattle.std.proofs.lemmas.List.{get_or-take, get_or_append_left, get_or-append_right, drop-take, take-take, take_all, get_or_past, nil_from_length}
use Rattle.std.proofs.lemmas.Bool.{le-leb, lt-leb, le-ltb, cases_lt}
use Rattle.std.proofs.lemmas.Bool.Decides.{nat_tests}
use Rattle.shelf.specs.declared.texts.CopyFault.{CopyFault}
use Rattle.shelf.specs.declared.texts.CopyFault.TheVariants.{NoText}
use Rattle.shelf.specs.Answers.{text_length, copy_answer, copy_fills}
use Rattle.shelf.specs.Kinds.{pair_texts}
use Rattle.shelf.specs.Texts.{text, stretch, most_texts}

-- what a call of `copy` has to show
pub record Copied (texts : List (List ℕ)) (k from : ℕ) (old : List ℕ) (answer : Result (Unit {0}) CopyFault) (after : List ℕ) : Type 0 where
  pub answers : answer ≡ copy_answer texts k from (length old)
  pub fills : after ≡ copy_fills texts k from old

module _ (texts : List (List ℕ)) (k from : ℕ) (old : List ℕ) where
  pub refused : (fault : CopyFault) → Err fault ≡ copy_answer texts k from (length old) → Copied texts k from old (Err fault) old
  refused fault e = record { answers = e; fills = ap (λ r. cond (is_ok r) (stretch from (length old) (text texts k)) old) e }

  pub accepted : (after : List ℕ) → Ok tt ≡ copy_answer texts k from (length old) → after ≡ stretch from (length old) (text texts k) →
      Copied texts k from old (Ok tt) after
  accepted after e f = record { answers = e; fills = f ∙ ap (λ r. cond (is_ok r) (stretch from (length old) (text texts k)) old) e }

-- a buffer as long as the text is filled with the whole text
pub whole : (texts : List (List ℕ)) (k : ℕ) (old : List ℕ) → length old ≡ length (text texts k) → copy_fills texts k 0 old ≡ text texts k
whole texts k old e =
    ⊎_elim (λ (h : k < length texts).
    let there : leb (length texts) k ≡ false = lt-leb (length texts) k h in
    let within : ltb (length (text texts k)) (0 + length old) ≡ false = le-ltb (length (text texts k)) (0 + length old) (omega arith) in
    sym (accepted texts k 0 old (stretch 0 (length old) (text texts k)) (rw (there, within) refl) refl).fills ∙ take_all (length old) (text texts k) (omega arith))
    (λ (h : length texts ≤ k).
    let none : text texts k ≡ [] = get_or_past texts k [] h in
    let there : leb (length texts) k ≡ true = le-leb (length texts) k h in
    sym (refused texts k 0 old NoText (rw there refl)).fills ∙ nil_from_length old (e ∙ ap length none) ∙ sym none)
    (cases_lt k (length texts))

-- a text that is not there is as long as an empty one
pub length_or_none : (texts : List (List ℕ)) (k : ℕ) → unwrap_or (text_length texts k) 0 ≡ length (text texts k)
length_or_none texts k =
    ⊎_elim (λ (h : k < length texts). rw (lt-leb (length texts) k h) refl)
    (λ (h : length texts ≤ k). rw (le-leb (length texts) k h, get_or_past texts k [] h) refl)
    (cases_lt k (length texts))

-- on a shelf of one text
pub accepted_one : (t : List ℕ) (k from : ℕ) (old after : List ℕ) → Ok tt ≡ copy_answer (t ∷ []) k from (length old) →
    after ≡ stretch from (length old) t → Copied (t ∷ []) k from old (Ok tt) after
accepted_one t zero from old after e f = accepted (t ∷ []) 0 from old after e f
accepted_one t (suc k) from old after e f =
    let none : Ok tt ≡ Err NoText = rw (le-leb 1 (suc k) (omega arith)) at e in
    let z : ◌≡◌ {A = ℕ} 0 1 = cc in
    absurd (omega arith)

-- a stretch that ends before a cut is not touched by it
pub stretch_take : (from count end : ℕ) (bytes : List ℕ) → from + count ≤ end → stretch from count (take end bytes) ≡ stretch from count bytes
stretch_take from count end bytes h =
    sym (drop-take from count (take end bytes)) ∙ ap (drop from) (take-take (from + count) end bytes h) ∙ drop-take from count bytes

-- a cut at the shorter of a length and a list's own
pub take_short : (n most : ℕ) (bytes : List ℕ) → n ≡ min (length bytes) most → take n bytes ≡ take most bytes
take_short n most bytes e =
    ⊎_elim (λ (h : most < length bytes). ap (λ k. take k bytes) (omega arith))
    (λ (h : length bytes ≤ most). take_all n bytes (omega arith) ∙ sym (take_all most bytes h))
    (cases_lt most (length bytes))

-- two shelves that agree at a text answer alike there
module _ (texts others : List (List ℕ)) (k j : ℕ) (there : leb (length texts) k ≡ leb (length others) j) (same : text texts k ≡ text others j) where
  pub copied_alike : (from : ℕ) (old : List ℕ) {answer : Result (Unit {0}) CopyFault} {after : List ℕ} →
      answer ≡ copy_answer others j from (length old) → after ≡ copy_fills others j from old → Copied texts k from old answer after
  copied_alike from old e f = record { answers = rw (there, same) e; fills = rw (there, same) f }

  pub length_alike : {answer : Option ℕ} → answer ≡ text_length others j → answer ≡ text_length texts k
  length_alike e = rw (there, same) e

-- text k of a pair, below the eighth: one of the first, or one of the second
module _ (xs ys : List (List ℕ)) (k : ℕ) (low : k < most_texts) where
  pub first_there : k < length xs → leb (length (pair_texts xs ys)) k ≡ leb (length xs) k
  first_there h = simp (length-take, length-append) (grind (arith, nat_tests))

  pub first_same : k < length xs → text (pair_texts xs ys) k ≡ text xs k
  first_same h = rw (get_or-take, get_or_append_left)

  pub second_there : length xs ≤ k → leb (length (pair_texts xs ys)) k ≡ leb (length ys) (k - length xs)
  second_there h = simp (length-take, length-append) (grind (arith, nat_tests))

  pub second_same : length xs ≤ k → text (pair_texts xs ys) k ≡ text ys (k - length xs)
  second_same h = rw (get_or-take, get_or-append_right xs ys (length xs) k [] refl)
