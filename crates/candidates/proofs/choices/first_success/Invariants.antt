use Rattle.std.proofs.Common.{◌≡◌}
use Rattle.candidates.proofs.Rising.{Risen}
use Rattle.candidates.proofs.choices.first_success.Given as goal

abbrev pub invariant-loop-above : goal.invariant-loop-above
invariant-loop-above l = record {
  same : l.trials ≡ l.prepared;
  risen : Risen l.prepared l.above l.last;
}
