use Rattle.std.proofs.Common.{◌≡◌, ap, ◌∙◌, rules}
use Rattle.std.proofs.lemmas.List.{take_all}
use Rattle.std.proofs.lemmas.List.Sums.{fold_more}
use Rattle.rule.specs.Rule.{joined_bytes}
use Rattle.rule.proofs.Joining.{bytes_join}
use Rattle.rule.proofs.value_of.Goals as goal

pub loop-b-preserved : goal.loop-b-preserved
loop-b-preserved g c = search (rules, fold_more)

pub returns : goal.returns
returns g c =
    let value = g.R.Rule.value in
    let joined = g.R.Rule.joined in
    let bytes = c.args.bytes.now in
    let all : c.loop-b.value ≡ joined_bytes value joined bytes =
    c.loop-b.invariant ∙ ap (joined_bytes value joined) (take_all c.loop-b.b-index bytes c.loop-b-test.false)
    in
    record { folds = all; means = λ short. all ∙ bytes_join value joined g.met.R.Rule.joins bytes short }
