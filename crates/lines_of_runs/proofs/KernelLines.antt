-- The lines of a kernel's run.
use Rattle.std.proofs.Common.{◌≡◌, ◌∙◌, ℕ, sym, ap}
use Rattle.kernel.specs.declared.kernels.parts.Parts.{Parts}
use Rattle.kernel.specs.Overlapped.{FitsKernel, overlapped}
use Rattle.kernel.proofs.cycles.Promised.{runs-keep_shapes}
use Rattle.loop_data.specs.Loops.{LoopData}
use Rattle.loop_data.specs.Run.{HasShapeOf, MemoryData, opening_of}
use Rattle.loop_data.proofs.Openings.{opening_shape}
use Rattle.lines_of_runs.specs.Plain.{plain_lines, run_lines}
use Rattle.lines_of_runs.specs.Runs.{KernelsTellPlainLines, kernel_lines}
use Rattle.lines_of_runs.specs.Runnable.{HasSizesOf}
use Rattle.lines_of_runs.proofs.Shapes.{opening_memory, opening_trip}

-- the memory before a loop's first iteration has the shape of its kernel
pub opening_fits : (trip : ℕ) (loop : LoopData) (kernel : Parts) → HasSizesOf loop kernel → FitsKernel kernel (opening_of loop trip)
opening_fits trip loop kernel h =
    let shape = opening_shape loop trip in record {
      same_arrays = shape.same_arrays ∙ sym h.same_arrays;
      same_outs = shape.same_outs ∙ sym h.same_outs;
    }

-- and what the kernel leaves of it has the shape of the loop, and the trip count
pub left_shape : (trip : ℕ) (loop : LoopData) (kernel : Parts) → HasSizesOf loop kernel → HasShapeOf loop (overlapped kernel (opening_of loop trip))
left_shape trip loop kernel h =
    let after = (runs-keep_shapes kernel (opening_of loop trip) (opening_fits trip loop kernel h)).0 in record {
      same_arrays = after.same_arrays ∙ h.same_arrays;
      same_outs = after.same_outs ∙ h.same_outs;
    }

pub left_trip : (trip : ℕ) (loop : LoopData) (kernel : Parts) → HasSizesOf loop kernel → (overlapped kernel (opening_of loop trip)).trip ≡ trip
left_trip trip loop kernel h = (runs-keep_shapes kernel (opening_of loop trip) (opening_fits trip loop kernel h)).1 ∙ opening_trip loop trip

pub kernels-tell_plain_lines : KernelsTellPlainLines
unfolding kernel_lines plain_lines
kernels-tell_plain_lines trip loop kernel few runs =
    ap (λ (after : MemoryData). run_lines loop (opening_of loop trip) after) (runs (opening_of loop trip) (opening_memory loop trip few) (opening_shape loop trip))
