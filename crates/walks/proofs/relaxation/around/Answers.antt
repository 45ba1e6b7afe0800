use Rattle.std.proofs.Common.{rules, ◌≡◌, ◌+◌, ◌-◌, ◌*◌, ◌<◌, ◌≤◌, ℤ, pos, ◌+ℤ◌, length, subst, arith, to_z, of_z, w8, w64}
use Rattle.std.specs.Prelude.{◌≤ℤ◌, neg_ℤ}
use Rattle.std.proofs.lemmas.Int.{ints}
use Rattle.std.proofs.lemmas.Option.{IfSome_then}
use Rattle.std.proofs.lemmas.List.Elements.{All-contains}
use Rattle.edges.specs.Edges.{EdgeData}
use Rattle.edges.specs.Graphs.{IsGraph}
use Rattle.walks.proofs.Sweeps.{IsAlong, along_none, along_more, exceeds-along, via-edge}
use Rattle.walks.proofs.relaxation.around.Goals as goal

pub loop-step-init : goal.loop-step-init
loop-step-init c = record {
  there = c.requires.there;
  along = along_none c.args.edges.now.edges c.args.start;
  high = omega (arith, ints);
  low = omega (arith, ints);
  near = omega arith;
}

pub loop-step-preserved : goal.loop-step-preserved
loop-step-preserved c =
    let g : IsGraph c.args.edges.now = c.operations-step-end.ensures.well_formed in
    let few : length c.args.edges.now.latencies ≤ 128 = g.few in
    let all : c.operations-step-end.result ≡ length c.args.edges.now.latencies = c.operations-step-end.ensures.value in
    let within : c.loop-step._step < c.operations-step-end.result = c.loop-step-test.true in
    let high : to_z w64 c.loop-step.delay-bits ≤ℤ pos (127 * c.loop-step._step) = c.loop-step.invariant.high in
    let low : neg_ℤ (pos (128 * c.loop-step._step)) ≤ℤ to_z w64 c.loop-step.delay-bits = c.loop-step.invariant.low in
    let near : c.loop-step.distance ≤ 255 * c.loop-step._step = c.loop-step.invariant.near in
    let there : c.loop-step.at < length c.args.edges.now.latencies = c.loop-step.invariant.there in
    let far : c.in-Some.edge.distance < 256 = search rules in
    let delay : c.from-delay.result ≡ to_z w8 (of_z w8 c.in-Some.edge.delay) = c.from-delay.ensures in
    let same : c.from-delay.result ≡ c.in-Some.edge.delay = omega (arith, ints) in
    let sum : to_z w64 (of_z w64 (to_z w64 c.loop-step.delay-bits +ℤ to_z w64 (of_z w64 c.from-delay.result))) ≡ (to_z w64 c.loop-step.delay-bits +ℤ c.in-Some.edge.delay)
    = omega (arith, ints) in
    let long : length c.args.via.now ≡ 128 = search rules in
    let e = via-edge c.args.edges.now c.args.via.now c.loop-step.at _ c.in-Some.edge c.requires.via (omega arith) c.in-Some.is in
    record {
      there = (All-contains (λ (e : EdgeData). (e.from < length c.args.edges.now.latencies) × (e.to < length c.args.edges.now.latencies)) c.args.edges.now.edges c.in-Some.edge g.ends e.0).1;
      along = along_more c.args.edges.now.edges c.args.start c.loop-step.at _ _ c.loop-step.distance _ c.in-Some.edge c.loop-step.invariant.along e.0 e.1 sum (omega arith);
      high = omega (arith, ints);
      low = omega (arith, ints);
      near = omega arith;
    }

pub returns-then-at-start : goal.returns-then-at-start
returns-then-at-start c =
    let g : IsGraph c.args.edges.now = c.operations-step-end.ensures.well_formed in
    let few : length c.args.edges.now.latencies ≤ 128 = g.few in
    let all : c.operations-step-end.result ≡ length c.args.edges.now.latencies = c.operations-step-end.ensures.value in
    let within : c.loop-step._step < c.operations-step-end.result = c.loop-step-test.true in
    let high : to_z w64 c.loop-step.delay-bits ≤ℤ pos (127 * c.loop-step._step) = c.loop-step.invariant.high in
    let low : neg_ℤ (pos (128 * c.loop-step._step)) ≤ℤ to_z w64 c.loop-step.delay-bits = c.loop-step.invariant.low in
    let there : c.loop-step.at < length c.args.edges.now.latencies = c.loop-step.invariant.there in
    let delay : c.from-delay.result ≡ to_z w8 (of_z w8 c.in-Some.edge.delay) = c.from-delay.ensures in
    let same : c.from-delay.result ≡ c.in-Some.edge.delay = omega (arith, ints) in
    let sum : to_z w64 (of_z w64 (to_z w64 c.loop-step.delay-bits +ℤ to_z w64 (of_z w64 c.from-delay.result))) ≡ (to_z w64 c.loop-step.delay-bits +ℤ c.in-Some.edge.delay)
    = omega (arith, ints) in
    let long : length c.args.via.now ≡ 128 = search rules in
    let e = via-edge c.args.edges.now c.args.via.now c.loop-step.at _ c.in-Some.edge c.requires.via (omega arith) c.in-Some.is in
    let excess : ℤ = to_z w64 (of_z w64 (to_z w64 c.loop-step.delay-bits +ℤ to_z w64 (of_z w64 c.from-delay.result))) in
    let along : IsAlong c.args.edges.now.edges c.args.start c.in-Some.edge.to excess (c.loop-step.distance + c.from-distance.result)
    = along_more c.args.edges.now.edges c.args.start c.loop-step.at _ excess c.loop-step.distance (c.loop-step.distance + c.from-distance.result) c.in-Some.edge
    c.loop-step.invariant.along e.0 e.1 sum (omega arith) in
    IfSome_then c.longer_interval.result c.longer_interval.ensures
    (λ next h. (
      h.0,
      exceeds-along c.args.edges.now.edges c.args.start (next - 1) excess (c.loop-step.distance + c.from-distance.result)
          (subst (λ q. IsAlong c.args.edges.now.edges c.args.start q excess (c.loop-step.distance + c.from-distance.result)) c.if-at-start.true along) h.1,
    ))
