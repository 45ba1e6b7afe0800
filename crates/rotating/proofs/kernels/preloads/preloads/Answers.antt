use Rattle.rotating.proofs.emitted.Ranks.{zero-at}
use Rattle.rotating.proofs.kernels.preloads.preloads.Goals as goal

pub fill_carried-requires-clause-zeros : goal.fill_carried-requires-clause-zeros
fill_carried-requires-clause-zeros c = zero-at 256
