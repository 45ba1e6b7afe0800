use Rattle.std.proofs.Common.{sym, ap, ◌∙◌, arith}
use Rattle.std.specs.List.{list_any}
use Rattle.std.proofs.lemmas.List.{take_all}
use Rattle.machine_data.specs.Alternative.{rows_meet}
use Rattle.schedules.proofs.check.meets_any.Goals as goal

pub returns : goal.returns
returns c =
    sym (sym (ap (list_any (λ s. rows_meet c.args.ii c.args.row.now 0 s 0)) (take_all c.loop-other.other-index c.args.others.now (omega arith))) ∙ c.loop-other.invariant)
