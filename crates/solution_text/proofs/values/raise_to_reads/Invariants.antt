use Rattle.std.proofs.Common.{take}
use Rattle.solution_text.specs.inner.Carried.{IsRaised}
use Rattle.solution_text.proofs.values.raise_to_reads.Given as goal

abbrev pub invariant-loop-read : goal.invariant-loop-read
invariant-loop-read l = IsRaised (take l.read-index l.reads) l.initial.iterations l.iterations
