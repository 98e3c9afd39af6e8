use Rattle.std.proofs.Common.{◌≡◌, ◌+◌, [], ◌∷◌, ◌++◌, get_or, drop, sym, ap, ◌∙◌, append_assoc, arith}
use Rattle.script.specs.declared.items.Item.TheVariants.{Word}
use Rattle.script.specs.declared.items.Word.TheVariants.{Kept}
use Rattle.script.specs.Items.{spelled, separator, printed}
use Rattle.script.proofs.Printing.{item_more, last_separator, space_separator}
use Rattle.script.proofs.Writing.{both_wrote, wrote_alike}
use Rattle.script.proofs.buffer.Writer.put_line.Goals as goal
use Rattle.script.proofs.buffer.Writer.put_line.Goals.{then-i-items, else-i-items}

pub loop-i-preserved : goal.loop-i-preserved
loop-i-preserved c =
    let items = c.args.items.now in
    let i = c.loop-i.i in
    let inv = c.loop-i.invariant in
    let behind : c.if-i-items.behind ≡ separator (drop (i + 1) items) =
    elim c.if-i-items.branch [
      | then-i-items w ↦ w.behind-is ∙ space_separator items (i + 1) (Word Kept) (omega arith)
      | else-i-items w ↦ w.behind-is ∙ last_separator items (i + 1) (omega arith)
    ] in
    let here = spelled (get_or items i (Word Kept)) ++ separator (drop (i + 1) items) ∷ [] in (
      inv.0 ++ here,
      both_wrote inv.1 (both_wrote (wrote_alike (c.as_bytes.ensures.value ∙ c.text.ensures.value) c.put.ensures) (wrote_alike (ap (λ b. b ∷ []) behind) c.put-in-loop-i.ensures)),
      append_assoc inv.0 here (printed (drop (i + 1) items)) ∙ ap (λ l. inv.0 ++ l) (sym (item_more items i (Word Kept) c.loop-i-test.true)) ∙ inv.2,
    )
