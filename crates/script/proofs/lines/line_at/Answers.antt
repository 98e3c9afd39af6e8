use Rattle.std.proofs.Common.{◌-◌, length, drop, ap, ◌∙◌, arith, length-drop}
use Rattle.std.specs.List.{position_or_len}
use Rattle.std.proofs.lemmas.List.{take_all}
use Rattle.script.specs.Lines.{ends_line}
use Rattle.script.proofs.Cuts.{first_line}
use Rattle.script.proofs.lines.line_at.Goals as goal

pub returns : goal.returns
returns c =
    let script = c.args.script.now in
    let start = c.args.start in
    first_line script _ start _ (omega arith)
    (c.len_to_end.ensures.place ∙ ap (position_or_len ends_line) (take_all (length script - start) (drop start script) (simp length-drop (omega arith))))
