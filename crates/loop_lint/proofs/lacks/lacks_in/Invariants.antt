use Rattle.std.proofs.Common.{◌≡◌, ◌+◌, ◌++◌, ◌≤◌, false, length}
use Rattle.loop_lint.specs.Lacks.{lacks_from}
use Rattle.loop_lint.specs.Lints.{text_lines}
use Rattle.loop_lint.proofs.lacks.lacks_in.Given as goal

-- those of the lines so far
abbrev pub invariant-loop-rest : goal.invariant-loop-rest
invariant-loop-rest l = record {
  passed : l.lacks.items ++ lacks_from l.machine l.number l.inside (text_lines l.rest) ≡ lacks_from l.machine 1 false (text_lines l.fn.text);
  room : l.number + length l.rest ≤ 1 + length l.fn.text;
}

abbrev pub decreases-loop-rest : goal.decreases-loop-rest
decreases-loop-rest l = length l.rest
