-- What `bounds` writes.
use Rattle.std.specs.Prelude.{◌≡◌, ℕ, true, List, ◌++◌, length}
use Rattle.machine_data.specs.Machines.{MachineData}
use Rattle.loop_data.specs.Loops.{LoopData}
pub use Rattle.lower_bounds.specs.Bounds.{AreBounds, IsLines, bounds_line}
use Rattle.listing_printouts.specs.Last.{last_line}
use Rattle.written.specs.Written.{Written}

-- a line for each loop, and then `loops A`. No loop is unmet, since none is scheduled
abbrev pub IsBoundsText : MachineData → List LoopData → Written → Type 0
IsBoundsText machine loops written = (written.all_met ≡ true) × ((lines : List ℕ) × IsLines machine loops lines × (written.text ≡ lines ++ last_line (length loops)))
