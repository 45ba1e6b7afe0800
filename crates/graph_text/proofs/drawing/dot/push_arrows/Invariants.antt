use Rattle.std.proofs.Common.{◌≡◌, ℕ, List, ◌++◌, take}
use Rattle.graph_text.specs.Dot.{IsStroke, arrow_line}
use Rattle.lower_bounds.specs.Texts.{AreTexts}
use Rattle.graph_text.proofs.drawing.dot.push_arrows.Given as goal

abbrev pub invariant-loop-edge : goal.invariant-loop-edge
invariant-loop-edge l = (arrows : List ℕ) × AreTexts (IsStroke l.innermost l.graph.latencies l.circuit) arrow_line (take l.edge-index l.edge-items) arrows
    × (l.text.items ≡ l.initial.text.items ++ arrows)
