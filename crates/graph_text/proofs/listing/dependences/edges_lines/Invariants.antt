use Rattle.std.proofs.Common.{◌≡◌, None, take}
use Rattle.graph.specs.Units.{first_lacking}
use Rattle.graph_text.specs.Edges.{AreEdgesParts}
use Rattle.graph_text.proofs.listing.dependences.edges_lines.Given as goal

abbrev pub invariant-loop-innermost : goal.invariant-loop-innermost
invariant-loop-innermost l = record {
  complete : first_lacking l.machine (take l.innermost-index l.loops) ≡ None;
  parts : AreEdgesParts l.machine (take l.innermost-index l.loops) l.text.items;
}
