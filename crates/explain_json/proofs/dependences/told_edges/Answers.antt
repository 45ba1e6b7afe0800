use Rattle.std.proofs.Common.{◌≡◌, ◌≤◌, ◌+◌, pos, List, [], ◌∷◌, ◌++◌, length, get_or, map, take, refl, sym, ap, subst, arith}
use Rattle.std.specs.List.{All, AllZip}
use Rattle.std.proofs.lemmas.List.{take_all}
use Rattle.serde_json.specs.Data.{Data}
use Rattle.serde_json.specs.View.{view}
use Rattle.serde_json.proofs.Views.{view-Array}
use Rattle.edges.specs.Edges.{EdgeData}
use Rattle.graph_text.specs.Kinds.{IsTimed}
use Rattle.explain_json.specs.Edges.{IsEdgeObject}
use Rattle.explain_json.proofs.Lists.{pushed, zipped-more}
use Rattle.explain_json.proofs.dependences.told_edges.Goals as goal

pub loop-edge-preserved : goal.loop-edge-preserved
loop-edge-preserved c =
    let xs = c.all-edge-items.result.now in
    let es = c.args.graph.now.edges in
    let loop = c.args.innermost.now in
    let latencies = c.args.graph.now.latencies in
    let same : xs ≡ es = c.all-edge-items.ensures.value in
    let i = c.loop-edge.edge-index in
    let d : EdgeData = record { from = 0; to = 0; distance = 0; delay = pos 0 } in
    let before : List Data = map view c.loop-edge.values.items in
    let told : Data = view c.in_ok-told_edge.field-0 in
    let timed : IsTimed loop latencies (get_or xs i d) = subst (λ (ys : List EdgeData). All (IsTimed loop latencies) ys) (sym same) c.requires.timed i d c.loop-edge-test.true in
    let done : AllZip (IsEdgeObject loop latencies) (take i xs) before
    = subst (λ (ys : List EdgeData). AllZip (IsEdgeObject loop latencies) (take i ys) before) (sym same) c.loop-edge.invariant in
    subst (λ (ds : List Data). AllZip (IsEdgeObject loop latencies) (take (i + 1) es) ds)
    (sym (pushed c.loop-edge.values.items c.push.new.self.items c.in_ok-told_edge.field-0 told c.in_ok-push.ensures.items refl))
    (subst (λ (ys : List EdgeData). AllZip (IsEdgeObject loop latencies) (take (i + 1) ys) (before ++ told ∷ [])) same
    (zipped-more (IsEdgeObject loop latencies) xs i d before told c.loop-edge-test.true done (c.kind_of.result, c.kind_of.ensures latencies timed, c.in_ok-told_edge.ensures)))

pub returns : goal.returns
returns c =
    let es = c.args.graph.now.edges in
    let objects : List Data = map view c.loop-edge.values.items in
    let long : length c.all-edge-items.result.now ≡ length es = ap (λ (ys : List EdgeData). length ys) c.all-edge-items.ensures.value in
    let over : length es ≤ c.loop-edge.edge-index = (let t = c.loop-edge-test.false in omega (arith, t, long)) in (
      objects,
      subst (λ (ys : List EdgeData). AllZip (IsEdgeObject c.args.innermost.now c.args.graph.now.latencies) ys objects) (take_all c.loop-edge.edge-index es over) c.loop-edge.invariant,
      view-Array c.loop-edge.values,
    )
