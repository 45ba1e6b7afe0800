use Rattle.std.proofs.Common.{◌+◌, ◌≤◌, [], length}
use Rattle.loop_reader.specs.Meaning.{forms_of, whole}
use Rattle.loop_lint.proofs.Passing.{IsTold}
use Rattle.loop_lint.proofs.passes.tell_lines.Given as goal

-- the faults of the lines so far are told
abbrev pub invariant-loop-alloc : goal.invariant-loop-alloc
invariant-loop-alloc l = record {
  told : IsTold l.fn.number l.fn.text (whole [] (forms_of l.fn.text)) l.fn.faults.items l.at l.rest l.before l.faults.items;
  room : l.before.arrays + l.before.params + l.before.statements + length l.rest ≤ length l.fn.text;
  numbers : l.at + length l.rest ≤ l.fn.number + length l.fn.text;
  past : l.fn.number ≤ l.at;
}

abbrev pub decreases-loop-alloc : goal.decreases-loop-alloc
decreases-loop-alloc l = length l.rest
