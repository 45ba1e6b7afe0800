use Rattle.std.proofs.Common.{◌∙◌, ℕ, Some, ap, filter, not}
use Rattle.std.specs.List.{range_with_len}
use Rattle.loop_lint.specs.declared.block.Known.{Known}
use Rattle.loop_lint.specs.declared.fault.Hint.TheVariants.{Inits}
use Rattle.loop_lint.specs.inner.Tables.{flag_of, known_at}
use Rattle.loop_lint.proofs.Hinting.{missing_are}
use Rattle.loop_lint.proofs.hints.missing_inits.Goals as goal

pub returns : goal.returns
returns c = λ forms words is.
    let table = c.args.block.now in
    ap Inits (missing_are forms table c.args.word.now c.in_ok-numbers.numbers c.reach.result is c.reach.ensures.value c.reach.ensures.small
    (c.in_ok-numbers.ensures
    ∙ ap (λ (k : Known). filter (λ (n : ℕ). not (flag_of k.inits (Some n))) (range_with_len 1 c.reach.result)) (c.get-known.ensures ∙ ap (known_at table.names) c.name_in.ensures)))
