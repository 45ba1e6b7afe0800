use Rattle.std.proofs.Common.{◌≤◌, ◌-◌, length}
use Rattle.machine_lint.proofs.sought.words.equal_blocks.Given as goal

abbrev pub invariant-loop-at : goal.invariant-loop-at
invariant-loop-at l = record {
  text : l.at ≤ length l.text;
  other : l.at ≤ length l.other;
}

abbrev pub decreases-loop-at : goal.decreases-loop-at
decreases-loop-at l = length l.text - l.at
