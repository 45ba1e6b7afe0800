use Rattle.std.proofs.Common.{rules, ◌≡◌, ◌+◌, ◌<◌, ◌≤◌, List, [], ◌∷◌, ◌++◌, length, sym, ap, ◌∙◌, subst, arith}
use Rattle.std.proofs.lemmas.List.{length-append}
use Rattle.std.proofs.lemmas.List.Elements.{All-contains}
use Rattle.edges.specs.Edges.{EdgeData}
use Rattle.edges.specs.Graphs.{IsGraph}
use Rattle.walks.proofs.Sweeps.{via-edge}
use Rattle.walks.specs.Walks.{IsWalk}
use Rattle.circuits.specs.inner.Sweeps.{GoesRoundOnce}
use Rattle.circuits.proofs.Rings.{IsAlongFirst, along-none, along-more, goes-round}
use Rattle.circuits.proofs.first_edges.around.Goals as goal

pub loop-step-init : goal.loop-step-init
loop-step-init c =
    let none : c.new-walk.result.items ≡ [] = c.new-walk.ensures.items in
    let size : length c.new-walk.result.items ≡ 0 = ap length none in
    record {
      there = c.requires.there;
      few = omega arith;
      away = λ some. absurd (omega arith);
      along = subst (λ l. IsAlongFirst c.args.edges.now.edges c.args.first.now c.args.start l c.args.start) (sym none)
          (along-none c.args.edges.now.edges c.args.first.now c.args.start);
    }

pub returns-then-at-start : goal.returns-then-at-start
returns-then-at-start c =
    let g : IsGraph c.args.edges.now = c.operations-step-end.ensures.well_formed in
    let most : length c.args.edges.now.latencies ≤ 128 = g.few in
    let all : c.operations-step-end.result ≡ length c.args.edges.now.latencies = c.operations-step-end.ensures.value in
    let within : c.loop-step._step < c.operations-step-end.result = c.loop-step-test.true in
    let there : c.loop-step.at < length c.args.edges.now.latencies = c.loop-step.invariant.there in
    let few : length c.loop-step.walk.items ≤ c.loop-step._step = c.loop-step.invariant.few in
    let long : length c.args.first.now ≡ 128 = search rules in
    let e : EdgeData = c.in-Some.edge in
    let walk : List EdgeData = c.loop-step.walk.items in
    let pushed : c.push.new.self.items ≡ c.loop-step.walk.items ++ c.in-Some.edge ∷ [] = c.in_ok-push.ensures.items in
    let more : length (c.loop-step.walk.items ++ c.in-Some.edge ∷ []) ≡ length c.loop-step.walk.items + 1 = length-append c.loop-step.walk.items (c.in-Some.edge ∷ []) in
    let along : IsAlongFirst c.args.edges.now.edges c.args.first.now c.args.start (c.loop-step.walk.items ++ c.in-Some.edge ∷ []) c.in-Some.edge.to
    = along-more c.args.edges.now c.args.first.now c.args.start c.loop-step.at c.loop-step.walk.items c.in-Some.edge c.requires.first (omega arith) c.in-Some.is
    c.loop-step.invariant.away c.loop-step.invariant.along in
    subst (GoesRoundOnce c.args.edges.now.edges) (sym pushed)
    (goes-round c.args.edges.now.edges c.args.first.now c.args.start (c.loop-step.walk.items ++ c.in-Some.edge ∷ [])
    (subst (λ q. IsWalk c.args.edges.now.edges c.args.start (c.loop-step.walk.items ++ c.in-Some.edge ∷ []) q) c.if-at-start.true along.is_walk)
    along.follows along.once (omega arith))

pub loop-step-preserved : goal.loop-step-preserved
loop-step-preserved c =
    let g : IsGraph c.args.edges.now = c.operations-step-end.ensures.well_formed in
    let most : length c.args.edges.now.latencies ≤ 128 = g.few in
    let there : c.loop-step.at < length c.args.edges.now.latencies = c.loop-step.invariant.there in
    let few : length c.loop-step.walk.items ≤ c.loop-step._step = c.loop-step.invariant.few in
    let long : length c.args.first.now ≡ 128 = search rules in
    let pushed : c.push.new.self.items ≡ c.loop-step.walk.items ++ c.in-Some.edge ∷ [] = c.in_ok-push.ensures.items in
    let more : length c.push.new.self.items ≡ length c.loop-step.walk.items + 1 = ap length pushed ∙ length-append c.loop-step.walk.items (c.in-Some.edge ∷ []) in
    let v = via-edge c.args.edges.now c.args.first.now c.loop-step.at _ c.in-Some.edge c.requires.first (omega arith) c.in-Some.is in
    record {
      there = (All-contains (λ (e : EdgeData). (e.from < length c.args.edges.now.latencies) × (e.to < length c.args.edges.now.latencies)) c.args.edges.now.edges c.in-Some.edge g.ends v.0).1;
      few = omega arith;
      away = λ _ same. c.if-at-start.false same;
      along = subst (λ l. IsAlongFirst c.args.edges.now.edges c.args.first.now c.args.start l c.in-Some.edge.to) (sym pushed)
          (along-more c.args.edges.now c.args.first.now c.args.start c.loop-step.at c.loop-step.walk.items c.in-Some.edge c.requires.first (omega arith) c.in-Some.is
          c.loop-step.invariant.away c.loop-step.invariant.along);
    }
