use Rattle.std.proofs.Common.{◌≡◌, [], ◌∷◌, length, vec_items, ap, ◌∙◌}
use Rattle.std.proofs.lemmas.Slice.{pushed}
use Rattle.shelf.specs.Frames.{held_content}
use Rattle.shelf.specs.Texts.{text}
use Rattle.viewer.proofs.Lines.{with_text}
use Rattle.viewer.proofs.view_frame.Goals as goal

pub returns : goal.returns
returns c =
    let content = held_content c.args.frame in
    let bytes = vec_items c.in_ok-text.text in
    let same : bytes ≡ content.text = c.in_ok-text.ensures ∙ ap (λ texts. text texts 0) c.text.ensures.texts in
    let behind = pushed _ (c.reserve.ensures.items ∙ c.in_ok-out.ensures) c.in_ok-extend_from_slice.was c.extend_from_slice.ensures.items in
    let ended = pushed (10 ∷ []) behind c.in_ok-push.was c.push.ensures.items in
    let long = c.len.ensures ∙ c.in_ok-text.text.ok.0 ∙ ap length same in
    ended ∙ with_text c.args.name.now content _ _ _ c.kind-kind.ensures long (c.as_slice.ensures.value ∙ same)
