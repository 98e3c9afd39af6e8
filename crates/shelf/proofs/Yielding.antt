-- The check of a frame that was laid out.
use Rattle.std.proofs.Common.{◌≡◌, ℕ, ◌+◌, ◌<◌, ◌≤◌, true, false, ltb, List, length, Ok, sym, refl, ap, ◌∙◌, inl, inr, arith}
use Rattle.std.proofs.lemmas.Bool.{le-ltb}
use Rattle.std.proofs.lemmas.Bool.Decides.{nat_tests}
use Rattle.shelf.specs.declared.frame.Kind.TheVariants.{Straight, Ring}
use Rattle.shelf.specs.Frames.{little_endian, ring_fits, start_fits, checked}
use Rattle.shelf.specs.Kinds.{ring_text}
use Rattle.shelf.specs.Layout.{in_bytes, frame, ring_body, FramesYield}
use Rattle.shelf.specs.Texts.{limit}
use Rattle.shelf.proofs.Frames.{passes}

-- a number below 2^32 is what its four bytes stand for
four_back : (n : ℕ) → n < 4294967296 → little_endian (in_bytes 4 n) ≡ n
four_back n h = omega arith

straight_yields : (text : List ℕ) → length text ≤ limit → checked (frame Straight text) ≡ Ok (record { kind = Straight; text = text })
straight_yields text h =
    let said = four_back (length text) (omega arith) in
    sym (passes (frame Straight text) (omega arith) (inl refl) (omega arith) said)

start_low : (start m : ℕ) → start_fits start m ≡ true → m ≤ limit → start < 4294967296
start_low start m e h = grind (arith, nat_tests)

ring_yields : (start : ℕ) (memory : List ℕ) → length memory + 4 ≤ limit → start_fits start (length memory) ≡ true →
    checked (frame Ring (ring_body start memory)) ≡ Ok (record { kind = Ring; text = ring_text memory start })
ring_yields start memory h fits =
    let all = ring_body start memory in
    let said = four_back (length all) (omega arith) in
    let begun = four_back start (start_low start (length memory) fits (omega arith)) in
    let long : ltb (length all) 4 ≡ false = le-ltb (length all) 4 (omega arith) in
    let good : ring_fits all ≡ true = rw long (ap (λ s. start_fits s (length memory)) begun ∙ fits) in
    sym (passes (frame Ring all) (omega arith) (inr (refl, good)) (omega arith) said) ∙ ap (λ s. Ok (record { kind = Ring; text = ring_text memory s })) begun

pub frames_yield : FramesYield
frames_yield = record { straight = straight_yields; ring = ring_yields }
