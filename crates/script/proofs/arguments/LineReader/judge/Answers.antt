use Rattle.std.proofs.Common.{map, sym, ap, ◌∙◌}
use Rattle.script.specs.Args.{kind_of}
use Rattle.script.specs.Names.{listed}
use Rattle.script.proofs.ArgKinds.{kinds_are}
use Rattle.script.proofs.arguments.LineReader.judge.Goals as goal

pub command_of-command-requires : goal.command_of-command-requires
command_of-command-requires c =
    let self = c.args.self.now in
    ap (map kind_of) c.as_slice.ensures
    ∙ kinds_are (listed self.names.now) self.text.now self.line c.form.result.kinds.now _ _ (sym c.in_ok-args.ensures)
    ∙ c.form.ensures.1
