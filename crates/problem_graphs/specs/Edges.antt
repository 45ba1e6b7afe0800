-- The text of the edges of a problem.
use Rattle.std.specs.Prelude.{◌≡◌, ℕ, codes, List, ◌++◌, length, slice_index}
use Rattle.std.specs.List.{flat_map, range_with_len}
use Rattle.edges.specs.Edges.{EdgeData}
use Rattle.walks.specs.Walks.{AreHeights}
use Rattle.graph_text.specs.Edges.{sums_told}
use Rattle.schedules.specs.Problems.{mii_of}
use Rattle.registers.specs.declared.value.Read.{Read}
use Rattle.problems.specs.declared.draft.Draft.{Draft}
use Rattle.problems.specs.declared.draft.Order.{Order as OrderData}
use Rattle.problems.specs.Drafts.{order_edge, read_edge}
use Rattle.problems.specs.Problems.{ProblemData}
use Rattle.writing.specs.Words.{told}
use Rattle.problem_graphs.specs.declared.whys.Why.{Why}
use Rattle.problem_graphs.specs.declared.whys.Why.TheVariants.{Value, Order}
use Rattle.problem_graphs.specs.Heads.{problem_line}
use Rattle.problem_graphs.specs.Names.{kind_name}
use Rattle.solution_text.specs.Names.{op_name}
use Rattle.problem_graphs.specs.Whys.{why_text}

-- a word, the number of an operation, and what it is called
abbrev pub numbered : List ℕ → Draft → ℕ → List ℕ
numbered word draft op = (told word op ++ codes " ") ++ op_name draft op

-- `op K NAME KIND latency L height H`, with a line feed
abbrev pub op_line : ProblemData → List ℕ → ℕ → List ℕ
op_line problem heights op =
    (((numbered (codes "op ") problem.draft op ++ (codes " " ++ kind_name problem.draft op))
    ++ told (codes " latency ") (slice_index problem.scheduling.graph.latencies op)) ++ told (codes " height ") (slice_index heights op)) ++ codes "\n"

-- the lines of all operations, in order
abbrev pub op_lines : ProblemData → List ℕ → List ℕ
op_lines problem heights = flat_map (op_line problem heights) (range_with_len 0 (length problem.draft.operations.items))

-- `edge P NAME Q NAME WHY delay D distance N`, with a line feed
abbrev pub edge_line : Draft → EdgeData → Why → List ℕ
edge_line draft e why =
    (((numbered (codes "edge ") draft e.from ++ numbered (codes " ") draft e.to) ++ (codes " " ++ why_text draft why)) ++ sums_told e.delay e.distance) ++ codes "\n"

-- the line of a read: its reader waits for its value to land
abbrev pub read_line : Draft → Read → List ℕ
read_line draft reading = edge_line draft (read_edge draft reading) (Value reading.value)

-- the line of an order
abbrev pub order_line : Draft → OrderData → List ℕ
order_line draft order = edge_line draft (order_edge order) Order

-- the lines of all reads, in order, and after them those of all orders
abbrev pub edge_lines : Draft → List ℕ
edge_lines draft = flat_map (read_line draft) draft.reads.items ++ flat_map (order_line draft) draft.orders.items

-- the line of a problem with its bounds, a line for each operation with its height at the lower bound of the interval, and a line for
-- each read and each order
pub record IsEdgesText (name : List ℕ) (problem : ProblemData) (text : List ℕ) : Type 0 where
  pub heights : List ℕ
  pub are_heights : AreHeights problem.scheduling.graph (mii_of problem.scheduling) heights
  pub is_text : text ≡ (problem_line name problem ++ op_lines problem heights) ++ edge_lines problem.draft
