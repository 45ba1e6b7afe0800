use Rattle.std.proofs.Common.{◌≡◌}
use Rattle.solutions.proofs.Telling.{AreTold}
use Rattle.solutions.proofs.solving.told.tell_each.Given as goal

abbrev pub invariant-loop-above : goal.invariant-loop-above
invariant-loop-above l = record {
  same : l.trials ≡ l.problem;
  told : AreTold l.problem l.above l.last l.failures.items;
}
