use Rattle.std.proofs.Common.{◌≡◌, ℕ, List, ◌++◌, take}
use Rattle.lower_bounds.specs.Texts.{AreTexts}
use Rattle.problem_graphs.specs.Edges.{edge_line}
use Rattle.problem_reasons.specs.CircuitTexts.{IsWhy}
use Rattle.problem_reasons.proofs.circuit.push_edges.Given as goal

abbrev pub invariant-loop-edge : goal.invariant-loop-edge
invariant-loop-edge l = (lines : List ℕ) × AreTexts (IsWhy l.draft) (edge_line l.draft) (take l.edge-index l.circuit) lines × (l.text.items ≡ l.initial.text.items ++ lines)
