-- What is known of a kernel before it is run in a loop's place.
use Rattle.std.specs.Prelude.{◌≡◌, List, length}
use Rattle.std.specs.List.{AllZip}
use Rattle.loop_data.specs.Loops.{LoopData}
use Rattle.loop_schedules.specs.Problems.{ProblemData}
use Rattle.kernel.specs.declared.kernels.parts.Parts.{Parts}
use Rattle.loop_listings.specs.declared.choices.Choice.{Choice}
use Rattle.loop_listings.specs.declared.choices.Choice.TheVariants.{Met, Failed}
use Rattle.loop_listings.specs.declared.listings.Row.{Row}

-- it has as many arrays as the loop, and as many values that are live at the end
pub record HasSizesOf (loop : LoopData) (kernel : Parts) : Type 0 where
  pub same_arrays : length kernel.arrays ≡ length loop.arrays
  pub same_outs : length kernel.outs ≡ length loop.outs

-- .. where a kernel is chosen
abbrev pub IsRunnable : LoopData → Choice → Type 0
IsRunnable loop (Met ii kernel) = HasSizesOf loop kernel
IsRunnable loop (Failed cause) = Unit {0}

-- .. of each prepared loop with its row of a listing
abbrev pub AreRunnable : List ProblemData → List Row → Type 0
AreRunnable problems rows = AllZip (λ (p : ProblemData) (r : Row). IsRunnable p.loop r.choice) problems rows
