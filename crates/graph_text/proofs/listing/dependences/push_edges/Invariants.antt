use Rattle.std.proofs.Common.{◌≡◌, ℕ, List, ◌++◌, take}
use Rattle.graph_text.specs.Edges.{edge_line}
use Rattle.graph_text.specs.Kinds.{IsOfKind}
use Rattle.lower_bounds.specs.Texts.{AreTexts}
use Rattle.graph_text.proofs.listing.dependences.push_edges.Given as goal

abbrev pub invariant-loop-edge : goal.invariant-loop-edge
invariant-loop-edge l = (lines : List ℕ) × AreTexts (IsOfKind l.innermost l.graph.latencies) (edge_line l.innermost) (take l.edge-index l.edge-items) lines
    × (l.text.items ≡ l.initial.text.items ++ lines)
