use Rattle.std.proofs.Common.{rules, ◌≡◌, ◌<◌, ◌≤◌, length, arith}
use Rattle.std.proofs.lemmas.List.Elements.{All-contains}
use Rattle.edges.specs.Edges.{EdgeData}
use Rattle.edges.specs.Graphs.{IsGraph}
use Rattle.walks.proofs.Sweeps.{via-edge}
use Rattle.circuits.proofs.first_edges.come_again.Goals as goal

pub loop-step-preserved : goal.loop-step-preserved
loop-step-preserved c =
    let g : IsGraph c.args.edges.now = c.operations-step-end.ensures.well_formed in
    let most : length c.args.edges.now.latencies ≤ 128 = g.few in
    let there : c.loop-step.at < length c.args.edges.now.latencies = c.loop-step.invariant in
    let long : length c.args.first.now ≡ 128 = search rules in
    let v = via-edge c.args.edges.now c.args.first.now c.loop-step.at _ c.in-Some-first.edge c.requires.first (omega arith) c.in-Some-first.is in
    (All-contains (λ (e : EdgeData). (e.from < length c.args.edges.now.latencies) × (e.to < length c.args.edges.now.latencies)) c.args.edges.now.edges c.in-Some-first.edge g.ends v.0).1
