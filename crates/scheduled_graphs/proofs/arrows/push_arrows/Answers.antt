use Rattle.std.proofs.Common.{◌≡◌, List, pos, get_or, ap, ◌∙◌, subst}
use Rattle.edges.specs.Edges.{EdgeData}
use Rattle.edges.specs.Graphs.{GraphData}
use Rattle.graph_text.specs.Kinds.{IsOfKind}
use Rattle.lower_bounds.proofs.Texts.{text-next}
use Rattle.loop_data.specs.Loops.{LoopData}
use Rattle.scheduled_graphs.specs.Arrows.{IsStroke, arrow_line}
use Rattle.scheduled_graphs.specs.declared.arrows.Stroke.{Stroke}
use Rattle.scheduled_graphs.proofs.Edges.{edge-timed}
use Rattle.scheduled_graphs.proofs.arrows.push_arrows.Goals as goal

pub kind_of-requires : goal.kind_of-requires
kind_of-requires c =
    let p = c.args.prepared.now in
    let edges : List EdgeData = c.all-edge-items.result.now in
    let same : edges ≡ p.graph.edges = c.all-edge-items.ensures.value ∙ ap (λ (g : GraphData). g.edges) c.edges.ensures.value in (
      p.graph.latencies,
      edge-timed p c.innermost-innermost.result.now edges c.innermost-innermost.ensures.well_formed c.innermost-innermost.ensures.value same c.loop-edge.edge-index _ c.loop-edge-test.true,
    )

pub loop-edge-preserved : goal.loop-edge-preserved
loop-edge-preserved c =
    let p = c.args.prepared.now in
    let circuit = c.args.circuit.now in
    let edges : List EdgeData = c.all-edge-items.result.now in
    let same : edges ≡ p.graph.edges = c.all-edge-items.ensures.value ∙ ap (λ (g : GraphData). g.edges) c.edges.ensures.value in
    let i = c.loop-edge.edge-index in
    let d : EdgeData = record { from = 0; to = 0; distance = 0; delay = pos 0 } in
    let e : EdgeData = get_or edges i d in
    let stroke : Stroke = record { kind = c.kind_of.result; red = c.is_in.result } in
    let timed = edge-timed p c.innermost-innermost.result.now edges c.innermost-innermost.ensures.well_formed c.innermost-innermost.ensures.value same i d c.loop-edge-test.true in
    let kind : IsOfKind p.loop p.graph.latencies e c.kind_of.result
    = subst (λ (l : LoopData). IsOfKind l p.graph.latencies e c.kind_of.result) c.innermost-innermost.ensures.value (c.kind_of.ensures p.graph.latencies timed) in
    let drawn : IsStroke p circuit e stroke = record { kind = kind; red = c.is_in.ensures } in
    text-next (IsStroke p circuit) arrow_line edges p.graph.edges i d c.args.text.now.items c.loop-edge.text.items c.push_arrow.new.text.items c.loop-edge.invariant.0 stroke same
    c.loop-edge-test.true c.loop-edge.invariant.1 c.loop-edge.invariant.2 drawn c.in_ok-push_arrow.ensures.ok
