use Rattle.overlap.proofs.laws.kernels_keep_schedules.Goals as goal
use Rattle.overlap.proofs.in_flight.Kept.{kernels-keep_schedules}

pub returns : goal.returns
returns c = kernels-keep_schedules
