use Rattle.std.proofs.Common.{◌≡◌, ℕ, ◌<◌, eqb, length, sym, ap, ◌∙◌, subst, filter}
use Rattle.std.specs.List.{All}
use Rattle.std.proofs.lemmas.List.Elements.{All-filter, All-weaker}
use Rattle.edges.specs.Edges.{EdgeData}
use Rattle.edges.specs.Graphs.{GraphData}
use Rattle.modulo.specs.inner.Progress.{IsEarliestBy}
use Rattle.modulo.proofs.states.Filtered.{IsEarliest-into, earliest_below}
use Rattle.modulo.proofs.stepping.place.earliest.Goals as goal

pub earliest_by-requires-clause-ends : goal.earliest_by-requires-clause-ends
earliest_by-requires-clause-ends c =
    let graph : GraphData = c.edges.result.now in
    let n : ℕ = length c.args.progress.now.state.placed in
    let long : length graph.latencies ≡ n
    = ap (λ (g : GraphData). length g.latencies) c.edges.ensures.value ∙ c.edges.ensures.well_formed.each_latency ∙ sym c.requires.whole in
    let ends : All (λ (e : EdgeData). e.from < n) graph.edges
    = All-weaker (λ (e : EdgeData). (e.from < length graph.latencies) × (e.to < length graph.latencies)) (λ (e : EdgeData). e.from < n)
    (λ e h. subst (λ m. e.from < m) long h.0) graph.edges c.into.ensures.well_formed.ends in
    subst (All (λ (e : EdgeData). e.from < n)) (sym c.into.ensures.value)
    (All-filter (λ (e : EdgeData). eqb e.to c.args.op) (λ (e : EdgeData). e.from < n) graph.edges ends)

pub returns : goal.returns
returns c =
    let by : IsEarliestBy (filter (λ (e : EdgeData). eqb e.to c.args.op) c.args.problem.now.graph.edges) c.args.ii c.args.progress.now.state.placed c.args.op c.earliest_by.result
    = subst (λ (g : GraphData). IsEarliestBy (filter (λ (e : EdgeData). eqb e.to c.args.op) g.edges) c.args.ii c.args.progress.now.state.placed c.args.op c.earliest_by.result) c.edges.ensures.value
    (subst (λ es. IsEarliestBy es c.args.ii c.args.progress.now.state.placed c.args.op c.earliest_by.result) c.into.ensures.value c.earliest_by.ensures.exact) in
    let exact = IsEarliest-into c.args.problem.now c.args.ii c.args.progress.now.state c.args.op c.earliest_by.result by in
    record {
      exact = exact;
      below = λ limit times. earliest_below c.args.problem.now c.args.ii c.args.progress.now.state c.args.op c.earliest_by.result limit c.edges.ensures.well_formed exact times;
      well_formed = c.edges.ensures.well_formed;
    }
