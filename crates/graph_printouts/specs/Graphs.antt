-- What `edges` and `dot` write.
use Rattle.std.specs.Prelude.{◌≡◌, ℕ, true, List, ◌++◌, length}
use Rattle.machine.specs.Machines.{MachineData}
use Rattle.loop_data.specs.Loops.{LoopData}
use Rattle.graph_text.specs.Drawings.{AreDotParts}
use Rattle.graph_text.specs.Edges.{AreEdgesParts}
use Rattle.listing_printouts.specs.Last.{last_line}
use Rattle.written.specs.Written.{Written}

-- the dependences of each loop, and then `loops A`. No loop is unmet, since none is scheduled
abbrev pub IsEdgesText : MachineData → List LoopData → Written → Type 0
IsEdgesText machine loops written = (written.all_met ≡ true) × ((lines : List ℕ) × AreEdgesParts machine loops lines × (written.text ≡ lines ++ last_line (length loops)))

-- a graph for each loop
abbrev pub IsDotText : MachineData → List LoopData → Written → Type 0
IsDotText machine loops written = (written.all_met ≡ true) × AreDotParts machine loops written.text
