use Rattle.std.proofs.Common.{◌≡◌, ◌≤◌, true, length, Ok, sym, ap, ◌∙◌, inl, inr, arith}
use Rattle.shelf.specs.declared.frame.Kind.TheVariants.{Straight, Ring}
use Rattle.shelf.specs.Frames.{said_length, said_kind, body, says, kind_or_fault, held_content, ring_memory, ring_start, ring_fits}
use Rattle.shelf.specs.Texts.{limit}
use Rattle.shelf.proofs.Frames.{passes, says_kind, straight_content, ring_content}
use Rattle.shelf.proofs.check.Received.check.Goals as goal
use Rattle.shelf.proofs.check.Received.check.Goals.{in-Straight, in-Ring+in_ok-ring_of-in-Ring}

pub returns : goal.returns
returns c =
    let frame = c.args.self.bytes.now in
    let h = c.in_ok-length.ensures in
    let short : said_length frame ≤ limit = omega arith in
    let same : said_length frame ≡ length (body frame) = sym h.1 ∙ c.if-length-body.false ∙ ap length h.3 in
    let low : length (body frame) ≤ limit = omega arith in
    let kind = says_kind (said_kind frame) c.in_ok-kind.kind
    (ap kind_or_fault (sym h.2) ∙ sym c.in_ok-kind.ensures) in
    elim c.match-kind.branch [
      | in-Straight w ↦
          let said : says frame Straight ≡ true = rw w.in-Straight.is at kind in
          ap (λ t. Ok (held_content (record { trace = t }))) w.trace-is
          ∙ ap (λ x. Ok x) (straight_content frame w.new.result said (w.new.ensures ∙ h.3) low)
          ∙ passes frame h.0 (inl said) short same
      | in-Ring+in_ok-ring_of-in-Ring w ↦
          let said : says frame Ring ≡ true = rw w.in-Ring.is at kind in
          let r = w.in_ok-ring_of-in-Ring.ensures in
          ap (λ t. Ok (held_content (record { trace = t }))) w.trace-is
          ∙ ap (λ x. Ok x) (ring_content frame w.in_ok-ring_of-in-Ring.field-0 said (r.1 ∙ ap ring_memory h.3) (r.2 ∙ ap ring_start h.3) low)
          ∙ passes frame h.0 (inr (said, ap ring_fits (sym h.3) ∙ r.0)) short same
    ]
