use Rattle.std.proofs.Common.{◌≡◌, ℕ, List, ◌++◌, take}
use Rattle.lower_bounds.specs.Texts.{AreTexts}
use Rattle.scheduled_graphs.specs.Arrows.{IsStroke, arrow_line}
use Rattle.scheduled_graphs.proofs.arrows.push_arrows.Given as goal

abbrev pub invariant-loop-edge : goal.invariant-loop-edge
invariant-loop-edge l = (arrows : List ℕ) × AreTexts (IsStroke l.prepared l.circuit) arrow_line (take l.edge-index l.prepared.graph.edges) arrows
    × (l.text.items ≡ l.initial.text.items ++ arrows)
