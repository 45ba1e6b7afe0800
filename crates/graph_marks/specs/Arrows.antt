-- The ends of the lines of edges, in graphs for Graphviz that tell of a schedule.
use Rattle.std.specs.Prelude.{◌↔◌, ℕ, zero, suc, codes, Bool, IsTrue, if◌then◌else◌, List, [], ◌++◌}
use Rattle.std.specs.List.{Contains}
use Rattle.edges.specs.Edges.{EdgeData}
use Rattle.graph_text.specs.Dot.{at_text}
use Rattle.writing.specs.Words.{told_signed}

-- what makes an edge that goes to a later iteration dashed, and keeps it from moving operations
abbrev pub carried_text : ℕ → List ℕ
carried_text zero = []
carried_text (suc n) = codes ",style=dashed,constraint=false"

-- what makes an edge of the circuit red
abbrev pub circuit_text : Bool → List ℕ
circuit_text red = if red then codes ",color=red,penwidth=2" else []

-- ` D @N"`, what makes the edge dashed or red, and `]`, with a line feed
abbrev pub arrow_end : EdgeData → Bool → List ℕ
arrow_end e red = ((((told_signed (codes " ") e.delay ++ at_text e.distance) ++ codes "\"") ++ carried_text e.distance) ++ circuit_text red) ++ codes "]\n"

-- an edge is red just where it is one of the circuit
abbrev pub IsRed : List EdgeData → EdgeData → Bool → Type 0
IsRed circuit e red = IsTrue red ↔ Contains circuit e
