-- The text of the dependences of loops.
use Rattle.std.specs.Prelude.{◌≡◌, ℕ, ℤ, decimal, codes, List, ◌++◌, slice_index}
use Rattle.machine_data.specs.Machines.{MachineData}
use Rattle.loop_data.specs.Loops.{LoopData}
use Rattle.edges.specs.Edges.{EdgeData}
use Rattle.edges.specs.Graphs.{GraphData}
use Rattle.walks.specs.Walks.{IsHeight}
use Rattle.graph_text.specs.declared.kind.Kind.{Kind}
use Rattle.lower_bounds.specs.declared.measuring.LowerBounds.{LowerBounds}
use Rattle.lower_bounds.specs.Bounds.{IsMeasured, bounds_line, mii_of}
use Rattle.graph_text.specs.Kinds.{IsOfKind, kind_word}
use Rattle.graph_text.specs.Names.{op_name, opcode_word}
use Rattle.lower_bounds.specs.Texts.{AreTexts, numbers_of}
use Rattle.writing.specs.Words.{told, told_signed}

-- the number of an operation, and its name after a blank
abbrev pub numbered : LoopData → ℕ → List ℕ
numbered loop number = (decimal number ++ codes " ") ++ op_name loop number

-- ` delay D distance N`
abbrev pub sums_told : ℤ → ℕ → List ℕ
sums_told delay distance = told_signed (codes " delay ") delay ++ told (codes " distance ") distance

-- `op K NAME OPCODE latency L height H`, with a line feed
abbrev pub op_line : LoopData → List ℕ → ℕ → ℕ → List ℕ
op_line loop latencies number height =
    ((((codes "op " ++ numbered loop number) ++ (codes " " ++ opcode_word loop number)) ++ told (codes " latency ") (slice_index latencies number))
    ++ told (codes " height ") height) ++ codes "\n"

-- `edge P NAME Q NAME KIND delay D distance N`, with a line feed
abbrev pub edge_line : LoopData → EdgeData → Kind → List ℕ
edge_line loop e kind =
    ((((codes "edge " ++ numbered loop e.from) ++ (codes " " ++ numbered loop e.to)) ++ (codes " " ++ kind_word kind)) ++ sums_told e.delay e.distance) ++ codes "\n"

-- a loop's line of bounds, a line for each operation with its height at the lower bound of the interval, and a line for each
-- dependence with its kind
pub record IsEdgesPart (machine : MachineData) (loop : LoopData) (text : List ℕ) : Type 0 where
  pub bounds : LowerBounds
  pub graph : GraphData
  pub measured : IsMeasured machine loop bounds graph
  pub op_lines : List ℕ
  pub are_op_lines : AreTexts (IsHeight graph.edges graph.latencies (mii_of bounds)) (op_line loop graph.latencies) (numbers_of loop) op_lines
  pub edge_lines : List ℕ
  pub are_edge_lines : AreTexts (IsOfKind loop graph.latencies) (edge_line loop) graph.edges edge_lines
  pub is_text : text ≡ (bounds_line loop bounds ++ op_lines) ++ edge_lines

-- the parts of loops, one after another
abbrev pub AreEdgesParts : MachineData → List LoopData → List ℕ → Type 0
AreEdgesParts machine loops text = AreTexts (IsEdgesPart machine) (λ loop part. part) loops text
