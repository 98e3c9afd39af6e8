-- The fields of a frame by its bytes, and the frames that no row refuses.
use Rattle.std.proofs.Common.{◌≡◌, ℕ, ◌+◌, ◌*◌, ◌<◌, ◌≤◌, max, true, false, not, ◌&&◌, ◌||◌, eqb, ltb, ◌⊎◌, List, [], ◌∷◌, length, get_or, take, drop, Ok, refl, ap, ◌∙◌, arith, length-drop}
use Rattle.std.proofs.lemmas.List.{get_or-drop, take_all}
use Rattle.std.proofs.lemmas.Bool.Decides.{nat_tests}
use Rattle.shelf.specs.declared.frame.Kind.{Kind}
use Rattle.shelf.specs.declared.frame.Kind.TheVariants.{Straight, Ring}
use Rattle.shelf.specs.declared.held.Held.{Held}
use Rattle.shelf.specs.declared.ring.Ring as declared
use Rattle.shelf.specs.declared.trace.Trace.{Trace}
use Rattle.shelf.specs.Kinds.{ring_text}
use Rattle.shelf.specs.Frames.{little_endian, said_length, says, body, ring_start, ring_memory, ring_fits, content, checked, kind_number, kind_or_fault, held_content}
use Rattle.shelf.specs.Texts.{limit, stretch}

-- the number in two bytes, and in four
two_bytes : (xs : List ℕ) → 2 ≤ length xs → little_endian (take 2 xs) ≡ get_or xs 0 0 + get_or xs 1 0 * 256
two_bytes [] h = absurd (omega arith)
two_bytes (x ∷ []) h = absurd (omega arith)
two_bytes (x ∷ y ∷ xs) h = omega arith

pub four_bytes : (xs : List ℕ) → 4 ≤ length xs →
    little_endian (take 4 xs) ≡ get_or xs 0 0 + get_or xs 1 0 * 256 + get_or xs 2 0 * 65536 + get_or xs 3 0 * 16777216
four_bytes [] h = absurd (omega arith)
four_bytes (x ∷ []) h = absurd (omega arith)
four_bytes (x ∷ y ∷ []) h = absurd (omega arith)
four_bytes (x ∷ y ∷ z ∷ []) h = absurd (omega arith)
four_bytes (x ∷ y ∷ z ∷ w ∷ xs) h = omega arith

pub kind_bytes : (xs : List ℕ) → 6 ≤ length xs → little_endian (stretch 4 2 xs) ≡ get_or xs 4 0 + get_or xs 5 0 * 256
kind_bytes xs h =
    two_bytes (drop 4 xs) (simp length-drop (omega arith)) ∙ simp get_or-drop

pub fits_from_start : (body : List ℕ) → 4 ≤ length body → ring_start body < max (length (ring_memory body)) 1 → ring_fits body ≡ true
fits_from_start body h l = grind (arith, nat_tests)

-- a frame that no row refuses
pub passes : (frame : List ℕ) → 6 ≤ length frame → (says frame Straight ≡ true) ⊎ ((says frame Ring ≡ true) × (ring_fits (body frame) ≡ true)) →
    said_length frame ≤ limit → said_length frame ≡ length (body frame) → Ok (content frame) ≡ checked frame
passes frame long kind short same =
    let a : ltb (length frame) 6 ≡ false = grind (arith, nat_tests) in
    let b : not (says frame Straight || says frame Ring) ≡ false = grind (arith, nat_tests) in
    let c : (ltb limit (said_length frame) || not (eqb (said_length frame) (length (body frame)))) ≡ false = grind (arith, nat_tests) in
    let d : (says frame Ring && not (ring_fits (body frame))) ≡ false = grind (arith, nat_tests) in
    rw (a, b, c, d) refl

pub says_kind : (n : ℕ) (kind : Kind) → kind_or_fault n ≡ Ok kind → eqb n (kind_number kind) ≡ true
says_kind n Straight e = grind (arith, nat_tests)
says_kind n Ring e = grind (arith, nat_tests)

-- what a checked frame of each kind holds
pub straight_content : (frame : List ℕ) (held : Held) → says frame Straight ≡ true → held.bytes.now ≡ body frame → length (body frame) ≤ limit →
    held_content (record { trace = Trace.Straight held }) ≡ content frame
straight_content frame held says_so e short =
    rw says_so (ap (λ t. record { kind = Straight; text = t }) (take_all limit held.bytes.now (rw e short) ∙ e))

pub ring_content : (frame : List ℕ) (ring : declared.Ring) → says frame Ring ≡ true → ring.bytes.now ≡ ring_memory (body frame) →
    ring.start ≡ ring_start (body frame) → length (body frame) ≤ limit → held_content (record { trace = Trace.Ring ring }) ≡ content frame
ring_content frame ring says_so e f short =
    let other : says frame Straight ≡ false = grind (arith, nat_tests) in
    let low : length ring.bytes.now ≤ limit = rw e (omega (arith, length-drop 4 (body frame))) in
    rw other (ap (λ t. record { kind = Ring; text = t })
    (ap (λ memory. ring_text memory ring.start) (take_all limit ring.bytes.now low ∙ e) ∙ ap (ring_text (ring_memory (body frame))) f))
