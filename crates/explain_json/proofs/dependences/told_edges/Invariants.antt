use Rattle.std.proofs.Common.{map, take}
use Rattle.std.specs.List.{AllZip}
use Rattle.serde_json.specs.View.{view}
use Rattle.explain_json.specs.Edges.{IsEdgeObject}
use Rattle.explain_json.proofs.dependences.told_edges.Given as goal

abbrev pub invariant-loop-edge : goal.invariant-loop-edge
invariant-loop-edge l = AllZip (IsEdgeObject l.innermost l.graph.latencies) (take l.edge-index l.graph.edges) (map view l.values.items)
