use Rattle.std.proofs.Common.{◌+◌, ◌≤◌, length}
use Rattle.loop_reader.specs.Meaning.{forms_of}
use Rattle.loop_lint.proofs.Passing.{IsGathered}
use Rattle.loop_lint.proofs.passes.gather_lines.Given as goal

-- the table has the standing lines so far, and what is left goes on with them
abbrev pub invariant-loop-rest : goal.invariant-loop-rest
invariant-loop-rest l = record {
  gathered : IsGathered (forms_of l.fn.text) (forms_of l.rest) l.table;
  room : l.table.arrays + l.table.params + l.table.statements + length l.rest ≤ length l.fn.text;
}

abbrev pub decreases-loop-rest : goal.decreases-loop-rest
decreases-loop-rest l = length l.rest
