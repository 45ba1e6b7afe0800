use Rattle.std.proofs.Common.{◌++◌, pos, get_or}
use Rattle.edges.specs.Edges.{EdgeData}
use Rattle.graph_text.specs.Edges.{edge_line}
use Rattle.graph_text.proofs.Drawn.{edge-timed}
use Rattle.lower_bounds.proofs.Texts.{texts-more}
use Rattle.writing.proofs.Beginnings.{two_pushed}
use Rattle.graph_text.proofs.listing.dependences.push_edges.Goals as goal

pub kind_of-requires : goal.kind_of-requires
kind_of-requires c = (
  c.args.graph.now.latencies,
  edge-timed c.requires.0 c.args.innermost.now c.args.graph.now c.all-edge-items.result.now c.all-edge-items.ensures.value c.requires.1 c.all-edge-items.ensures.well_formed c.loop-edge.edge-index _ c.loop-edge-test.true,
)

pub loop-edge-preserved : goal.loop-edge-preserved
loop-edge-preserved c =
    let edges = c.all-edge-items.result.now in
    let i = c.loop-edge.edge-index in
    let d : EdgeData = record { from = 0; to = 0; distance = 0; delay = pos 0 } in
    let timed = edge-timed c.requires.0 c.args.innermost.now c.args.graph.now edges c.all-edge-items.ensures.value c.requires.1 c.all-edge-items.ensures.well_formed i d c.loop-edge-test.true in (
      c.loop-edge.invariant.0 ++ edge_line c.args.innermost.now (get_or edges i d) c.kind_of.result,
      texts-more _ (edge_line c.args.innermost.now) edges i d c.loop-edge.invariant.0 c.kind_of.result c.loop-edge-test.true c.loop-edge.invariant.1
          (c.kind_of.ensures c.args.graph.now.latencies timed),
      two_pushed _ _ _ _ _ c.loop-edge.invariant.2 c.in_ok-push_edge.ensures.ok,
    )
