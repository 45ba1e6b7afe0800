use Rattle.std.proofs.Common.{not}
use Rattle.solution_reader.specs.Data.{ValueData}
use Rattle.solution_reader.specs.inner.Found.{is_among}
use Rattle.solution_reader.specs.inner.Seen.{value_seen}
use Rattle.solution_reader.proofs.First.{IsPast}
use Rattle.solution_reader.proofs.resolve.first_unknown_value.Given as goal

-- the names of the lines so far are all known
abbrev pub invariant-loop-row : goal.invariant-loop-row
invariant-loop-row l = IsPast value_seen (λ (r : ValueData). not (is_among l.names r.name.bytes)) l.rows l.row-index
