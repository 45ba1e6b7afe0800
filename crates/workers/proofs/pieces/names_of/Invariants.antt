use Rattle.std.proofs.Common.{◌≡◌, map, take}
use Rattle.loop_schedules.specs.Problems.{ProblemData}
use Rattle.workers.proofs.pieces.names_of.Given as goal

abbrev pub invariant-loop-one : goal.invariant-loop-one
invariant-loop-one l = l.names.items ≡ map (λ (p : ProblemData). p.loop.name) (take l.one-index l.prepared)
