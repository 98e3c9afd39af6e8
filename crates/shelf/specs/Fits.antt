-- Every kind of shelf has at most eight texts within the limit.
use Rattle.std.specs.Prelude.{◌≡◌, ℕ, zero, suc, ◌+◌, ◌-◌, ◌%◌, ◌<◌, ◌≤◌, List, [], ◌∷◌, ◌++◌, length, take, slice_index, refl}
use Rattle.std.proofs.Common.{⊎_elim, arith, length-take}
use Rattle.std.proofs.lemmas.List.FromFn.{length-map-range_with_len}
use Rattle.std.proofs.lemmas.List.{get_or-take, get_or_append_left, get_or-append_right, get_or_past}
use Rattle.std.proofs.lemmas.Bool.{cases_lt}
use Rattle.shelf.specs.declared.trace.Trace.{Trace}
use Rattle.shelf.specs.Frames.{trace_texts}
use Rattle.shelf.specs.Texts.{text, limit, most_texts, Fit}
use Rattle.shelf.specs.Kinds.{held_texts, ring_text, ring_texts, pair_texts}

one_short : (t : List ℕ) → length t ≤ limit → (k : ℕ) → length (text (t ∷ []) k) ≤ limit
one_short t h zero = h
one_short t h (suc k) = omega arith

one_fit : (t : List ℕ) → length t ≤ limit → Fit (t ∷ [])
one_fit t h = record { few = omega arith; short = one_short t h }

pub held_fit : (bytes : List ℕ) → Fit (held_texts bytes)
held_fit bytes = one_fit (take limit bytes) (omega (arith, length-take limit bytes))

pub length_ring : (memory : List ℕ) (start : ℕ) → length (ring_text memory start) ≡ length memory
length_ring memory start = length-map-range_with_len (λ i. slice_index memory ((start + i) % length memory)) 0 (length memory)

pub ring_fit : (bytes : List ℕ) (start : ℕ) → Fit (ring_texts bytes start)
ring_fit bytes start =
    let memory = take limit bytes in
    one_fit (ring_text memory start) (omega (arith, length_ring memory start, length-take limit bytes))

module _ {xs ys : List (List ℕ)} (f : Fit xs) (g : Fit ys) where
  joined_short : (k : ℕ) → length (text (xs ++ ys) k) ≤ limit
  joined_short k =
      ⊎_elim (λ h. rw (get_or_append_left xs ys [] k h) (f.short k))
      (λ h. rw (get_or-append_right xs ys (length xs) k [] refl h) (g.short (k - length xs)))
      (cases_lt k (length xs))

  pair_short : (k : ℕ) → length (text (pair_texts xs ys) k) ≤ limit
  pair_short k =
      ⊎_elim (λ (h : k < most_texts). rw (get_or-take most_texts (xs ++ ys) k [] h) (joined_short k))
      (λ (h : most_texts ≤ k). rw (get_or_past (pair_texts xs ys) k [] (omega (arith, length-take most_texts (xs ++ ys)))) (omega arith))
      (cases_lt k most_texts)

  pub pair_fit : Fit (pair_texts xs ys)
  pair_fit = record { few = omega (arith, length-take most_texts (xs ++ ys)); short = pair_short }

pub trace_fit : (t : Trace) → Fit (trace_texts t)
trace_fit (Trace.Straight held) = held_fit held.bytes.now
trace_fit (Trace.Ring ring) = ring_fit ring.bytes.now ring.start
