use Rattle.std.proofs.Common.{take, sym, ap, ◌∙◌, subst}
use Rattle.script.specs.Commands.{Holding}
use Rattle.script.specs.Judgement.{judged_text}
use Rattle.script.specs.Names.{listed}
use Rattle.script.specs.Smallest.{Smallest, line_faults}
use Rattle.script.proofs.Answering.{smallest_answers}
use Rattle.script.proofs.Sound.{command_holds}
use Rattle.script.proofs.judgement.judge.Goals as goal

pub returns : goal.returns
returns c =
    let names = listed c.args.names.now in
    let script = c.args.script.now in
    let line = c.args.line in
    let e = c.judge.ensures ∙ ap (λ text. judged_text names text line) c.text_of.ensures in
    record {
      answer = e;
      smallest = subst (Smallest (line_faults names script line)) (sym e) (smallest_answers names (take line.end script) line);
      holds = subst (Holding names script) (sym e) (command_holds names script line);
    }
