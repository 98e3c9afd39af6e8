use Rattle.std.proofs.Common.{◌≡◌, length, unwrap_or, ap, ◌∙◌, arith}
use Rattle.std.proofs.lemmas.List.{take_at}
use Rattle.shelf.specs.Texts.{text}
use Rattle.shelf.proofs.Copies.{whole, length_or_none}
use Rattle.viewer.proofs.text_bytes.Goals as goal

pub returns : goal.returns
returns g c =
    let texts = g.S.Shelf.texts c.args.shelf.now in
    let k = c.args.k in
    let old = c.as_mut_slice.result.now in
    let len : length old ≡ c.unwrap_or-n.result = omega (arith, c.in_ok-bytes.ensures.len) in
    let long : length old ≡ length (text texts k) = len ∙ c.unwrap_or-n.ensures ∙ ap (λ o. unwrap_or o 0) c.length.ensures ∙ length_or_none texts k in
    let filled : c.copy.new.out ≡ text texts k = c.copy.ensures.fills ∙ whole texts k old long in
    take_at _ _ _ (omega (arith, ap length filled)) ∙ filled
