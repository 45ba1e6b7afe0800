use Rattle.std.proofs.Common.{◌≡◌, ◌+◌, ◌<◌, drop, length, true, IfSome}
use Rattle.std.specs.Option.{option_map_or}
use Rattle.machine_lint.specs.inner.Sought.{begins, nth, texts}
use Rattle.machine_lint.proofs.Stepping.{Each}
use Rattle.machine_lint.proofs.sought.next.step.Given as goal

abbrev pub invariant-loop-now : goal.invariant-loop-now
invariant-loop-now l = record {
  first : IfSome l.now (λ k. (k < length l.links) × (begins (nth (texts l.words) k) (drop l.here.at l.here.text.now) ≡ true));
  each : Each l.here.text.now l.here.at (texts l.words) l.initial.nexts l.nexts l.now;
}

abbrev pub decreases-loop-now : goal.decreases-loop-now
decreases-loop-now l = option_map_or (λ k. k + 1) l.now 0
