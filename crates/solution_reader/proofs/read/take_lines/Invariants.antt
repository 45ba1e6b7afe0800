use Rattle.std.proofs.Common.{◌+◌, ◌≤◌, List, length}
use Rattle.solution_reader.specs.Meaning.{forms_of}
use Rattle.solution_reader.specs.Sofar.{TextLine}
use Rattle.solution_reader.specs.inner.Reading.{GoesOn}
use Rattle.solution_reader.specs.inner.Taken.{sofar_seen}
use Rattle.solution_reader.specs.inner.Steps.{IsSofar}
use Rattle.solution_reader.proofs.read.take_lines.Given as goal

-- what is left comes to what the whole text does
abbrev pub invariant-loop-rest : goal.invariant-loop-rest
invariant-loop-rest l = record {
  room : l.number + length l.rest ≤ 1 + length l.fn.text;
  goes : (before : List TextLine) → IsSofar before (sofar_seen l.fn.sofar) → GoesOn 1 before (forms_of l.fn.text) l.number (sofar_seen l.sofar) (forms_of l.rest);
}

abbrev pub decreases-loop-rest : goal.decreases-loop-rest
decreases-loop-rest l = length l.rest
