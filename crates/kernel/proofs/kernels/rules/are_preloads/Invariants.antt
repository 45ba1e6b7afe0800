use Rattle.std.proofs.Common.{◌≡◌, length, take}
use Rattle.kernel.specs.Check.{ArePreloads}
use Rattle.kernel.proofs.shapes.Preloading.{IsTable}
use Rattle.kernel.proofs.kernels.rules.are_preloads.Given as goal

abbrev pub invariant-loop-preload : goal.invariant-loop-preload
invariant-loop-preload l =
    (length l.is_taken ≡ 256) × ArePreloads l.registers (take l.preload-index l.preloads) × IsTable l.is_taken l.preloads l.preload-index
