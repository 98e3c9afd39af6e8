-- The texts that each kind of shelf shows.
use Rattle.std.specs.Prelude.{ℕ, ◌+◌, ◌%◌, List, [], ◌∷◌, ◌++◌, map, length, take, slice_index}
use Rattle.std.specs.List.{range_with_len}
use Rattle.shelf.specs.Texts.{limit, most_texts}

-- the one text that handed bytes give
abbrev pub held_texts : List ℕ → List (List ℕ)
held_texts bytes = take limit bytes ∷ []

-- the text of a ring: byte i is memory byte (start + i) mod m, m being the memory's length
abbrev pub ring_text : (memory : List ℕ) (start : ℕ) → List ℕ
ring_text memory start = map (λ i. slice_index memory ((start + i) % length memory)) (range_with_len 0 (length memory))

abbrev pub ring_texts : List ℕ → ℕ → List (List ℕ)
ring_texts bytes start = ring_text (take limit bytes) start ∷ []

-- the first's texts, then the second's, cut off after the eighth
abbrev pub pair_texts : List (List ℕ) → List (List ℕ) → List (List ℕ)
pair_texts first second = take most_texts (first ++ second)
