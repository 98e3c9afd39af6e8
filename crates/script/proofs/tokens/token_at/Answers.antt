use Rattle.std.proofs.Common.{ap, ◌∙◌, arith}
use Rattle.std.specs.List.{position_or_len}
use Rattle.script.proofs.Scans.{other, all_blank, at_other, at_first, ends_later}
use Rattle.script.proofs.tokens.token_at.Goals as goal

pub returns-then-start-text-clause-first : goal.returns-then-start-text-clause-first
returns-then-start-text-clause-first c =
    let left = c.in_ok-get.ensures.lookup.0 in
    all_blank c.args.text.now c.args.from c.len_of_blanks.result left.0 (c.len_of_blanks.ensures.place ∙ ap (position_or_len other) left.2) (omega arith)

pub loop-i-init : goal.loop-i-init
loop-i-init c =
    let left = c.in_ok-get.ensures.lookup.0 in
    at_first c.args.text.now c.args.from c.len_of_blanks.result left.0 (c.len_of_blanks.ensures.place ∙ ap (position_or_len other) left.2) (omega arith)

pub returns-then-ends_token-clause-inside : goal.returns-then-ends_token-clause-inside
returns-then-ends_token-clause-inside c =
    let left = c.in_ok-get.ensures.lookup.0 in
    let later = ends_later _ c.loop-i.i c.loop-i.quoted (at_other c.args.text.now c.args.from c.len_of_blanks.result left.0 (c.len_of_blanks.ensures.place ∙ ap (position_or_len other) left.2) (omega arith)) c.if-ends_token.ensures in
    record { some = omega arith; within = omega arith }
