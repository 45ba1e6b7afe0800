use Rattle.std.proofs.Common.{◌≤◌, ◌-◌}
use Rattle.lint_text.specs.inner.Cursors.{IsFrom}
use Rattle.lint_text.proofs.lines.passing.Given as goal

abbrev pub invariant-loop-at : goal.invariant-loop-at
invariant-loop-at l = record {
  from : IsFrom l.text l.at;
  few : l.at.passed ≤ l.lines;
}

abbrev pub decreases-loop-at : goal.decreases-loop-at
decreases-loop-at l = l.lines - l.at.passed
