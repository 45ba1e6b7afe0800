use Rattle.std.proofs.Common.{◌≡◌, map, take}
use Rattle.serde_json.specs.View.{view}
use Rattle.explain_json.specs.Edges.{place_of}
use Rattle.explain_json.specs.Parts.{count_value}
use Rattle.explain_json.proofs.circuit.told_places.Given as goal

abbrev pub invariant-loop-edge : goal.invariant-loop-edge
invariant-loop-edge l = map view l.values.items ≡ map (λ edge. count_value (place_of l.edges edge)) (take l.edge-index l.circuit)
