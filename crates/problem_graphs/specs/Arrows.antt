-- The arrows of a problem, in the language of Graphviz.
use Rattle.std.specs.Prelude.{◌↔◌, ℕ, codes, Bool, IsTrue, List, ◌++◌}
use Rattle.std.specs.List.{Contains}
use Rattle.edges.specs.Edges.{EdgeData}
use Rattle.graph_marks.specs.Arrows as marks
use Rattle.graph_text.specs.Dot.{arrow_end, arrow_start}
use Rattle.lower_bounds.specs.Texts.{AreTexts}
use Rattle.registers.specs.declared.value.Read.{Read}
use Rattle.problems.specs.declared.draft.Draft.{Draft}
use Rattle.problems.specs.declared.draft.Order.{Order as OrderData}
use Rattle.problems.specs.Drafts.{order_edge, read_edge}
use Rattle.problem_graphs.specs.declared.arrows.Look.{Look}
use Rattle.problem_graphs.specs.declared.arrows.Look.TheVariants.{Plain, Scheduled}
use Rattle.problem_graphs.specs.declared.whys.Why.{Why}
use Rattle.problem_graphs.specs.declared.whys.Why.TheVariants.{Value, Order}
use Rattle.problem_graphs.specs.Escapes.{escaped_in}

-- `value V`, and `order`, between quotes
abbrev pub why_label : Draft → Why → List ℕ
why_label draft (Value value) = codes "value " ++ escaped_in draft.names.values.items value
why_label draft Order = codes "order"

-- ` D @N"`, what makes the arrow bold, or dashed or red, and `]`, with a line feed
abbrev pub end_of : Look → EdgeData → Bool → List ℕ
end_of Plain e drawn = arrow_end e drawn
end_of Scheduled e drawn = marks.arrow_end e drawn

-- `  P -> Q [label="WHY D @N"`, and so on
abbrev pub arrow_line : Look → Draft → EdgeData → Why → Bool → List ℕ
arrow_line look draft e why drawn = (arrow_start e ++ why_label draft why) ++ end_of look e drawn

-- an edge is bold, or red, just where it is one of the circuit
abbrev pub IsOfCircuit : List EdgeData → EdgeData → Bool → Type 0
IsOfCircuit circuit e drawn = IsTrue drawn ↔ Contains circuit e

-- the arrows of reads, and of orders
abbrev pub AreReads : Look → Draft → List EdgeData → List Read → List ℕ → Type 0
AreReads look draft circuit reads text = AreTexts (λ (r : Read) (drawn : Bool). IsOfCircuit circuit (read_edge draft r) drawn)
    (λ (r : Read) (drawn : Bool). arrow_line look draft (read_edge draft r) (Value r.value) drawn) reads text

abbrev pub AreOrders : Look → Draft → List EdgeData → List OrderData → List ℕ → Type 0
AreOrders look draft circuit orders text = AreTexts (λ (o : OrderData) (drawn : Bool). IsOfCircuit circuit (order_edge o) drawn)
    (λ (o : OrderData) (drawn : Bool). arrow_line look draft (order_edge o) Order drawn) orders text
