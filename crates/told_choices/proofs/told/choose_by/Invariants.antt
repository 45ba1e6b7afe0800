use Rattle.std.proofs.Common.{◌≡◌}
use Rattle.told_choices.proofs.Telling.{AreTold}
use Rattle.told_choices.proofs.told.choose_by.Given as goal

abbrev pub invariant-loop-above : goal.invariant-loop-above
invariant-loop-above l = record {
  same : l.trials ≡ l.prepared;
  told : AreTold l.prepared l.above l.last l.failures.list.items l.failures.lack;
}
