use Rattle.variants.specs.inner.Tries.{AreFailing, with_registers}
use Rattle.variants.proofs.search.least.some_gives.Given as goal

abbrev pub invariant-loop-index : goal.invariant-loop-index
invariant-loop-index l = AreFailing (with_registers l.registers l.prepared) l.index
