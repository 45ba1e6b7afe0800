-- The dependences of a loop as a graph in the language of Graphviz.
use Rattle.std.specs.Prelude.{◌≡◌, ◌↔◌, ℕ, zero, suc, codes, Bool, IsTrue, if◌then◌else◌, List, [], ◌++◌}
use Rattle.std.specs.List.{Contains, flat_map}
use Rattle.loop_data.specs.Loops.{LoopData}
use Rattle.edges.specs.Edges.{EdgeData}
use Rattle.edges.specs.Graphs.{GraphData}
use Rattle.graph_text.specs.declared.drawing.dot.Stroke.{Stroke}
use Rattle.lower_bounds.specs.declared.measuring.LowerBounds.{LowerBounds}
use Rattle.lower_bounds.specs.Bounds.{bounds_told}
use Rattle.graph_text.specs.Kinds.{IsOfKind, kind_word}
use Rattle.graph_text.specs.Names.{op_name, opcode_word}
use Rattle.lower_bounds.specs.Texts.{AreTexts, numbers_of}
use Rattle.writing.specs.Words.{told, told_signed}

-- `digraph "NAME" {`, the label `NAME res R rec C mii M`, and the shape of all operations, a line each
abbrev pub graph_head : LoopData → LowerBounds → List ℕ
graph_head loop bounds =
    (((codes "digraph \"" ++ loop.name) ++ (codes "\" {\n  label=\"" ++ loop.name)) ++ bounds_told bounds) ++ codes "\"\n  node [shape=box]\n"

-- `  K [label="NAME OPCODE"]`, with a line feed
abbrev pub node_line : LoopData → ℕ → List ℕ
node_line loop number =
    (((told (codes "  ") number ++ codes " [label=\"") ++ op_name loop number) ++ (codes " " ++ opcode_word loop number)) ++ codes "\"]\n"

-- after a blank and an `@`, a distance that is not 0
abbrev pub at_text : ℕ → List ℕ
at_text zero = []
at_text (suc n) = told (codes " @") (suc n)

-- what makes an edge of the circuit bold
abbrev pub style_text : Bool → List ℕ
style_text bold = if bold then codes ",style=bold" else []

-- `  P -> Q [label="`, before the word of an edge's label
abbrev pub arrow_start : EdgeData → List ℕ
arrow_start e = (told (codes "  ") e.from ++ told (codes " -> ") e.to) ++ codes " [label=\""

-- ` D @N",style=bold]`, with a line feed, after it
abbrev pub arrow_end : EdgeData → Bool → List ℕ
arrow_end e bold = (((told_signed (codes " ") e.delay ++ at_text e.distance) ++ codes "\"") ++ style_text bold) ++ codes "]\n"

-- `  P -> Q [label="KIND D @N",style=bold]`, with a line feed
abbrev pub arrow_line : EdgeData → Stroke → List ℕ
arrow_line e stroke = (arrow_start e ++ kind_word stroke.kind) ++ arrow_end e stroke.bold

-- how an edge is drawn: by its kind, and bold if it is one of the circuit
pub record IsStroke (loop : LoopData) (latencies : List ℕ) (circuit : List EdgeData) (e : EdgeData) (stroke : Stroke) : Type 0 where
  pub kind : IsOfKind loop latencies e stroke.kind
  pub bold : IsTrue stroke.bold ↔ Contains circuit e

-- the graph of a loop with these bounds and dependences, one circuit of which is bold
pub record IsDotText (loop : LoopData) (bounds : LowerBounds) (graph : GraphData) (circuit : List EdgeData) (text : List ℕ) : Type 0 where
  pub arrows : List ℕ
  pub are_arrows : AreTexts (IsStroke loop graph.latencies circuit) arrow_line graph.edges arrows
  pub is_text : text ≡ ((graph_head loop bounds ++ flat_map (node_line loop) (numbers_of loop)) ++ arrows) ++ codes "}\n"
