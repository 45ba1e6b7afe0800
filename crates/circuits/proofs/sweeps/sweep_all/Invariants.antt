use Rattle.std.proofs.Common.{◌*◌}
use Rattle.circuits.specs.inner.Sweeps.{AreFirst, AreShort}
use Rattle.circuits.proofs.sweeps.sweep_all.Given as goal

abbrev pub invariant-loop-made : goal.invariant-loop-made
invariant-loop-made l = record {
  short : AreShort l.edges (8192 * l.made) l.lengths;
  begins : AreFirst l.edges l.first;
}
