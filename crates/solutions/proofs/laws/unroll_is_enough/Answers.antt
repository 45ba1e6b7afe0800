use Rattle.solutions.proofs.Unrolling.{unroll-is_enough}
use Rattle.solutions.proofs.laws.unroll_is_enough.Goals as goal

pub returns : goal.returns
returns c = unroll-is_enough
