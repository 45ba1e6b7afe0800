use Rattle.std.proofs.Common.{arith}
use Rattle.loop_schedules.specs.Problems.{IsProblem}
use Rattle.board_workers.proofs.Sharing.{one_more}
use Rattle.board_workers.proofs.run.know_problems.Goals as goal

pub loop-prepared-preserved : goal.loop-prepared-preserved
loop-prepared-preserved c =
    one_more IsProblem c.args.loops.now c.loop-prepared.prepared-index c.prepared-item.result c.loop-prepared-test.true c.prepared-item.is c.ceiling-ceiling.ensures.well_formed c.loop-prepared.invariant

pub returns : goal.returns
returns c k d near = c.loop-prepared.invariant k d (let end = c.loop-prepared-test.false in omega arith)
