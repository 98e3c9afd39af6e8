-- Trace frames: how one is laid out, when it is refused, and the text that it holds.
use Rattle.std.specs.Prelude.{◌≡◌, ℕ, ◌+◌, ◌*◌, ◌<◌, ◌≤◌, Bool, true, false, cond, not, ◌&&◌, ◌||◌, List, [], ◌∷◌, length, drop, Some, None, Ok, Err, codes, Option, Result, ◌==◌, nat_lt}
use Rattle.std.specs.Option.{ok_or}
use Rattle.shelf.specs.declared.rows.Layer.TheVariants.{Shelf}
use Rattle.shelf.specs.declared.rows.Row.{Row}
use Rattle.shelf.specs.declared.frame.FrameFault.{FrameFault}
use Rattle.shelf.specs.declared.frame.FrameFault.TheVariants.{ShortFrame, UnknownKind, WrongLength, BadRing}
use Rattle.shelf.specs.declared.frame.Kind.{Kind}
use Rattle.shelf.specs.declared.frame.Kind.TheVariants.{Straight, Ring}
use Rattle.shelf.specs.declared.check.Checked.{Checked}
use Rattle.shelf.specs.declared.check.Head.{Head}
use Rattle.shelf.specs.declared.ring.Ring as declared-ring
use Rattle.shelf.specs.declared.trace.Trace.{Trace}
use Rattle.shelf.specs.Kinds.{held_texts, ring_text, ring_texts}
use Rattle.shelf.specs.Rows.{refusal, given}
use Rattle.shelf.specs.Texts.{limit, text, stretch}

-- the row of each fault of a frame
abbrev pub frame_row : FrameFault → Row
frame_row ShortFrame = record { number = 1; layer = Shelf }
frame_row UnknownKind = record { number = 2; layer = Shelf }
frame_row WrongLength = record { number = 3; layer = Shelf }
frame_row BadRing = record { number = 4; layer = Shelf }

-- the number of each kind of frame
abbrev pub kind_number : Kind → ℕ
kind_number Straight = 1
kind_number Ring = 2

-- the kind of a number
abbrev pub kind_of : ℕ → Option Kind
kind_of number =
    cond (number == kind_number Straight) (Some Straight) (cond (number == kind_number Ring) (Some Ring) None)

-- the kind of a number, or the fault of a frame that has it
abbrev pub kind_or_fault : ℕ → Result Kind FrameFault
kind_or_fault number = ok_or (kind_of number) UnknownKind

-- the words that are printed for a kind
abbrev pub kind_words : Kind → List ℕ
kind_words Straight = codes "straight trace"
kind_words Ring = codes "ring dump"

-- the number that bytes stand for, the lowest byte first
abbrev pub little_endian : List ℕ → ℕ
little_endian [] = 0
little_endian (b ∷ bs) = b + 256 * little_endian bs

-- a frame: the length in 4 bytes, the kind in 2, and the body
abbrev pub said_length : List ℕ → ℕ
said_length frame = little_endian (stretch 0 4 frame)

abbrev pub said_kind : List ℕ → ℕ
said_kind frame = little_endian (stretch 4 2 frame)

-- whether the frame says that it is of the kind
abbrev pub says : List ℕ → Kind → Bool
says frame kind = said_kind frame == kind_number kind

abbrev pub body : List ℕ → List ℕ
body frame = drop 6 frame

-- the body of a ring dump: the start in 4 bytes, and the memory
abbrev pub ring_start : List ℕ → ℕ
ring_start body = little_endian (stretch 0 4 body)

abbrev pub ring_memory : List ℕ → List ℕ
ring_memory body = drop 4 body

-- a start lies in a memory of m bytes, or at 0 in an empty one
abbrev pub start_fits : (start m : ℕ) → Bool
start_fits start m = nat_lt start m || (start == 0 && m == 0)

-- the body of a ring dump has room for its start, and the start lies in the memory
abbrev pub ring_fits : List ℕ → Bool
ring_fits body = not (nat_lt (length body) 4) && start_fits (ring_start body) (length (ring_memory body))

-- the faults of a frame, each with a test of whether it fits
abbrev pub frame_rows : List ℕ → List (FrameFault × Bool)
frame_rows frame =
    (ShortFrame, nat_lt (length frame) 6)
    ∷ (UnknownKind, not (says frame Straight || says frame Ring))
    ∷ (WrongLength, nat_lt limit (said_length frame) || not (said_length frame == length (body frame)))
    ∷ (BadRing, says frame Ring && not (ring_fits (body frame)))
    ∷ []

-- what a checked frame holds: its kind, and its text
pub record Content : Type 0 where
  pub kind : Kind
  pub text : List ℕ

-- what a frame that no row refuses holds
abbrev pub content : List ℕ → Content
content frame = cond (says frame Straight)
    (record { kind = Straight; text = body frame })
    (record { kind = Ring; text = ring_text (ring_memory (body frame)) (ring_start (body frame)) })

-- what the check of a frame gives
abbrev pub checked : List ℕ → Result Content FrameFault
checked frame = given (refusal (frame_rows frame)) (content frame)

-- what a text taken out of a checked frame shows
abbrev pub trace_texts : Trace → List (List ℕ)
trace_texts (Trace.Straight held) = held_texts held.bytes.now
trace_texts (Trace.Ring ring) = ring_texts ring.bytes.now ring.start

abbrev pub trace_kind : Trace → Kind
trace_kind (Trace.Straight held) = Straight
trace_kind (Trace.Ring ring) = Ring

-- what a checked frame holds
abbrev pub held_content : Checked → Content
held_content frame = record { kind = trace_kind frame.trace; text = text (trace_texts frame.trace) 0 }

-- the answer of a check, by what it holds
abbrev pub outcome : Result Checked FrameFault → Result Content FrameFault
outcome (Ok frame) = Ok (held_content frame)
outcome (Err fault) = Err fault

-- the fields of a frame, or why it has none
abbrev pub HeadOf : List ℕ → Result Head FrameFault → Type 0
HeadOf frame (Ok head) =
    (6 ≤ length frame) × (head.length ≡ said_length frame) × (head.kind ≡ said_kind frame) × (head.body.now ≡ body frame)
HeadOf frame (Err fault) = (length frame < 6) × (fault ≡ ShortFrame)

-- the ring that the body of a ring dump holds, or why it holds none
abbrev pub RingOf : List ℕ → Result declared-ring.Ring FrameFault → Type 0
RingOf body (Ok ring) = (ring_fits body ≡ true) × (ring.bytes.now ≡ ring_memory body) × (ring.start ≡ ring_start body)
RingOf body (Err fault) = (ring_fits body ≡ false) × (fault ≡ BadRing)
