use Rattle.loop_schedules.specs.Problems.{IsProblem}
use Rattle.board_workers.proofs.Sharing.{FirstAre}
use Rattle.board_workers.proofs.run.know_problems.Given as goal

abbrev pub invariant-loop-prepared : goal.invariant-loop-prepared
invariant-loop-prepared l = FirstAre IsProblem l.loops l.prepared-index
