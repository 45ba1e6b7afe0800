use Rattle.std.proofs.Common.{◌≡◌, ℕ, List, ◌++◌}
use Rattle.std.specs.List.{range_with_len}
use Rattle.walks.specs.Walks.{IsHeight}
use Rattle.graph_text.specs.Edges.{op_line}
use Rattle.lower_bounds.specs.Texts.{AreTexts}
use Rattle.graph_text.proofs.listing.dependences.push_ops.Given as goal

abbrev pub invariant-loop-number : goal.invariant-loop-number
invariant-loop-number l = (lines : List ℕ) × AreTexts (IsHeight l.graph.edges l.graph.latencies l.interval) (op_line l.innermost l.graph.latencies) (range_with_len 0 l.number) lines
    × (l.text.items ≡ l.initial.text.items ++ lines)
