-- What `run` writes of a listing.
use Rattle.std.specs.Prelude.{◌≡◌, ◌≤◌, ℕ, List}
use Rattle.std.specs.List.{flat_map, zip}
use Rattle.machine_data.specs.declared.limits.TheConstants.{MAX_TRIP}
use Rattle.loop_data.specs.Loops.{LoopData}
use Rattle.loop_data.specs.Run.{opening_of}
use Rattle.kernel.specs.declared.kernels.parts.Parts.{Parts}
use Rattle.kernel.specs.Overlapped.{overlapped}
use Rattle.overlap.specs.Overlap.{RunsAsLoop}
use Rattle.loop_listings.specs.declared.choices.Choice.{Choice}
use Rattle.loop_listings.specs.declared.choices.Choice.TheVariants.{Met, Failed}
use Rattle.loop_listings.specs.declared.listings.Row.{Row}
use Rattle.loop_listings.specs.Texts.{row_text}
use Rattle.lines_of_runs.specs.Plain.{plain_lines, run_lines}

-- the lines of the run of a loop's kernel, its iterations overlapped
unfoldable pub kernel_lines : ℕ → LoopData → Parts → List ℕ
kernel_lines trip loop kernel = run_lines loop (opening_of loop trip) (overlapped kernel (opening_of loop trip))

-- what is told of a loop: the lines of its kernel's run where it has one, and else its line of the listing
abbrev pub choice_lines : ℕ → ℕ → LoopData → Row → Choice → List ℕ
choice_lines trip ceiling loop row (Met ii kernel) = kernel_lines trip loop kernel
choice_lines trip ceiling loop row (Failed cause) = row_text ceiling row

-- of each loop with its row
abbrev pub told_lines : ℕ → ℕ → List LoopData → List Row → List ℕ
told_lines trip ceiling loops rows = flat_map (λ (pair : LoopData × Row). choice_lines trip ceiling pair.0 pair.1 pair.1.choice) (zip loops rows)

-- the lines of the run of a kernel that runs as its loop are those of the loop's plain run
abbrev pub KernelsTellPlainLines : Type 0
KernelsTellPlainLines = (trip : ℕ) (loop : LoopData) (kernel : Parts) → trip ≤ MAX_TRIP → RunsAsLoop kernel loop
    → kernel_lines trip loop kernel ≡ plain_lines trip loop
