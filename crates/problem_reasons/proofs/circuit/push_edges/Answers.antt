use Rattle.std.proofs.Common.{pos, refl}
use Rattle.edges.specs.Edges.{EdgeData}
use Rattle.problem_graphs.specs.Edges.{edge_line}
use Rattle.lower_bounds.proofs.Texts.{text-next}
use Rattle.problem_reasons.specs.CircuitTexts.{IsWhy}
use Rattle.problem_reasons.proofs.circuit.push_edges.Goals as goal

pub loop-edge-preserved : goal.loop-edge-preserved
loop-edge-preserved c =
    let draft = c.args.draft.now in
    let circuit = c.args.circuit.now in
    let d : EdgeData = record { from = 0; to = 0; distance = 0; delay = pos 0 } in
    text-next (IsWhy draft) (edge_line draft) circuit circuit c.loop-edge.edge-index d c.args.text.now.items c.loop-edge.text.items c.push_edge.new.text.items c.loop-edge.invariant.0
    c.why_of.result refl c.loop-edge-test.true c.loop-edge.invariant.1 c.loop-edge.invariant.2 c.why_of.ensures c.in_ok-push_edge.ensures.ok
