use Rattle.std.proofs.Common.{◌≡◌}
use Rattle.loop_listings.specs.declared.causes.Cause.{Cause}
use Rattle.candidates.proofs.Rising.{Risen}
use Rattle.scheduled_printouts.proofs.tries.last_tried.Given as goal

abbrev pub invariant-loop-above : goal.invariant-loop-above
invariant-loop-above l = record {
  same : l.trials ≡ l.prepared;
  risen : (last : Cause) × Risen l.prepared l.above last;
}
