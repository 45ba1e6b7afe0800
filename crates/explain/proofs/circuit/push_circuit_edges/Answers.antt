use Rattle.std.proofs.Common.{◌++◌, pos, get_or}
use Rattle.edges.specs.Edges.{EdgeData}
use Rattle.graph_text.specs.Edges.{edge_line}
use Rattle.graph_text.proofs.KindRules.{from-within, to-within}
use Rattle.lower_bounds.proofs.Texts.{texts-more}
use Rattle.writing.proofs.Beginnings.{two_pushed}
use Rattle.explain.proofs.circuit.push_circuit_edges.Goals as goal

pub kind_of-requires : goal.kind_of-requires
kind_of-requires c = (c.args._graph.now.latencies, c.requires.timed c.loop-edge.edge-index _ c.loop-edge-test.true)

pub loop-edge-preserved : goal.loop-edge-preserved
loop-edge-preserved c =
    let edges = c.args.circuit.now in
    let i = c.loop-edge.edge-index in
    let d : EdgeData = record { from = 0; to = 0; distance = 0; delay = pos 0 } in
    let timed = c.requires.timed i d c.loop-edge-test.true in (
      c.loop-edge.invariant.0 ++ edge_line c.args.innermost.now (get_or edges i d) c.kind_of.result,
      texts-more _ (edge_line c.args.innermost.now) edges i d c.loop-edge.invariant.0 c.kind_of.result c.loop-edge-test.true c.loop-edge.invariant.1
          (c.kind_of.ensures c.args._graph.now.latencies timed),
      two_pushed _ _ _ _ _ c.loop-edge.invariant.2 c.in_ok-push_edge.ensures.ok,
    )

pub push_edge-requires-clause-from : goal.push_edge-requires-clause-from
push_edge-requires-clause-from c =
    from-within c.args.innermost.now c.args._graph.now.latencies _ c.requires.whole (c.requires.timed c.loop-edge.edge-index _ c.loop-edge-test.true).dependence

pub push_edge-requires-clause-to : goal.push_edge-requires-clause-to
push_edge-requires-clause-to c =
    to-within c.args.innermost.now c.args._graph.now.latencies _ (c.requires.timed c.loop-edge.edge-index _ c.loop-edge-test.true).dependence
