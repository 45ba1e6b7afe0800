use Rattle.std.proofs.Common.{◌≡◌, None, take}
use Rattle.graph.specs.Units.{first_lacking}
use Rattle.graph_text.specs.Drawings.{AreDotParts}
use Rattle.graph_text.proofs.drawing.drawings.dot_graphs.Given as goal

abbrev pub invariant-loop-innermost : goal.invariant-loop-innermost
invariant-loop-innermost l = record {
  complete : first_lacking l.machine (take l.innermost-index l.loops) ≡ None;
  parts : AreDotParts l.machine (take l.innermost-index l.loops) l.text.items;
}
