use Rattle.std.proofs.Common.{◌≡◌, get_or, arith}
use Rattle.std.proofs.Math.ListN.{replicate}
use Rattle.walks.proofs.Sweeps.{vias-none}
use Rattle.circuits.proofs.Farthest.{zeros}
use Rattle.circuits.proofs.sweeps.sweep_all.Goals as goal

pub loop-made-init : goal.loop-made-init
loop-made-init c = record {
  short = λ p below. let zero : get_or (replicate 128 0) p 0 ≡ 0 = zeros 128 p in omega arith;
  begins = vias-none c.args.edges.now 128;
}
