use Rattle.loop_schedules.proofs.Bare.{of-loop}
use Rattle.loop_schedules.proofs.schedule.Schedule.of_loop.Goals as goal

pub invariant_of-result : goal.invariant_of-result
invariant_of-result c = (of-loop c.args.prepared.now c.args.schedule c.operations.ensures.well_formed c.requires c.ii.ensures.well_formed, c.requires)
