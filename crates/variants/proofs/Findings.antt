-- What a loop has on a machine and on its variants, by what was found.
use Rattle.std.proofs.Common.{◌≡◌, ℕ, false}
use Rattle.std.specs.Prelude.{Option, Some, None}
use Rattle.machine_data.specs.Machines.{MachineData}
use Rattle.loop_schedules.specs.Problems.{ProblemData}
use Rattle.machine_variants.specs.declared.variant.Variant.{Variant}
use Rattle.machine_variants.specs.Variants.{passes_limit}
use Rattle.variants.specs.Intervals.{IsFinding, IsVariedInterval}
use Rattle.variants.specs.inner.Tries.{found_of}

-- what was found on a variant within the limits
pub finding-found : (machine : MachineData) (p : ProblemData) (variant : Variant) (interval : Option ℕ) → passes_limit machine variant ≡ false → IsVariedInterval machine p variant interval
    → IsFinding machine p variant (found_of interval)
finding-found machine p variant None within h = (within, h)
finding-found machine p variant (Some ii) within h = (within, h)
