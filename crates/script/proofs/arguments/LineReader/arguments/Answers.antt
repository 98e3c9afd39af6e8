use Rattle.std.proofs.Common.{Err, ap, ◌∙◌, arith}
use Rattle.script.specs.declared.forms.Kind.TheVariants.{Known}
use Rattle.script.specs.Args.{outcome}
use Rattle.script.specs.Arguments.{both, one}
use Rattle.script.specs.Names.{listed}
use Rattle.script.proofs.Readings.{one_more, too_few}
use Rattle.script.proofs.arguments.LineReader.arguments.Goals as goal

pub returns-in_default : goal.returns-in_default
returns-in_default c =
    let self = c.args.self.now in
    let sofar = outcome c.loop-kind.sofar in
    too_few (listed self.names.now) self.text.now self.line c.args.kinds.now _ _ sofar _ c.loop-kind.invariant.1
    Known _ c.loop-kind-test.true c.in_default.ensures.first (c.and.ensures.0 ∙ ap (λ f. both sofar (Err f)) c.fault-missing.ensures)

pub loop-kind-preserved : goal.loop-kind-preserved
loop-kind-preserved c =
    let self = c.args.self.now in
    let sofar = outcome c.loop-kind.sofar in (
      omega (arith, c.and-sofar.ensures.1),
      one_more (listed self.names.now) self.text.now self.line c.args.kinds.now _ _ sofar _ c.loop-kind.invariant.1
          _ _ _ _ c.loop-kind-test.true c.in-Some.ensures.first (c.and-sofar.ensures.0 ∙ ap (λ a. both sofar (one a)) c.argument.ensures),
    )
