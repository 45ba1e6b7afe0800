use Rattle.std.proofs.Common.{◌≡◌, false, take}
use Rattle.std.specs.List.{list_any}
use Rattle.machine_data.specs.Alternative.{rows_meet}
use Rattle.schedules.proofs.check.meets_any.Given as goal

abbrev pub invariant-loop-other : goal.invariant-loop-other
invariant-loop-other l = list_any (λ s. rows_meet l.ii l.row 0 s 0) (take l.other-index l.others) ≡ false
