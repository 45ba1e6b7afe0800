use Rattle.std.proofs.Common.{◌+◌, ◌++◌, ◌<◌, ◌≤◌, [], length}
use Rattle.loop_lint.specs.Lints.{outside_lints, text_lines}
use Rattle.loop_lint.specs.inner.Names.{GoesOn}
use Rattle.loop_lint.proofs.lint.tell_all_lines.Given as goal

-- the faults of the lines so far are told
abbrev pub invariant-loop-at : goal.invariant-loop-at
invariant-loop-at l = record {
  goes : GoesOn l.names l.at.number l.at.loops (text_lines l.at.rest.now) l.faults.items (l.fn.faults.items ++ outside_lints 1 [] (text_lines l.fn.text));
  room : l.at.number + length l.at.rest.now ≤ 1 + length l.fn.text;
  few : l.at.loops < l.at.number;
}

abbrev pub decreases-loop-at : goal.decreases-loop-at
decreases-loop-at l = length l.at.rest.now
