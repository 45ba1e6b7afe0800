-- What `run` writes.
use Rattle.std.specs.Prelude.{◌≡◌, ℕ, List, ◌++◌}
use Rattle.machine.specs.Machines.{MachineData}
use Rattle.loop_data.specs.Loops.{LoopData}
use Rattle.loop_listings.specs.Listings.{ListingData}
use Rattle.candidates.specs.Promises.{IsRight, Lists}
pub use Rattle.lines_of_runs.specs.Runs.{KernelsTellPlainLines, choice_lines, kernel_lines, told_lines}
use Rattle.loop_listings.specs.Texts.{counts_line}
use Rattle.written.specs.Written.{Written}
use Rattle.listing_printouts.specs.Met.{are_met}

-- the lines of all loops, by the listing of one thread, each kernel of which is right, and then `loops A met B failed F`; with whether
-- every loop has a kernel
pub record IsRunText (trip ratio ceiling : ℕ) (machine : MachineData) (loops : List LoopData) (written : Written) : Type 0 where
  pub listing : ListingData
  pub lists : Lists machine loops ratio ceiling listing
  pub right : IsRight machine loops listing
  pub is_text : written.text ≡ told_lines trip listing.ceiling loops listing.rows ++ counts_line listing.rows
  pub met : written.all_met ≡ are_met listing.rows
