use Rattle.std.proofs.Common.{◌≢◌, take}
use Rattle.std.specs.List.{All}
use Rattle.registers.specs.declared.value.Read.{Read}
use Rattle.problems.specs.Drafts.{read_edge}
use Rattle.problem_reasons.proofs.circuit.why_of.Given as goal

abbrev pub invariant-loop-read : goal.invariant-loop-read
invariant-loop-read l = All (λ (r : Read). read_edge l.draft r ≢ l.edge) (take l.read-index l.draft.reads.items)
