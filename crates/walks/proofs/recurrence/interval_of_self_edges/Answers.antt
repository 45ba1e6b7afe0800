use Rattle.std.proofs.Common.{◌≡◌, ◌-◌, ◌*◌, ◌<◌, ◌≤◌, pos, length, get_or, subst, ap, arith, inr, to_z, of_z, w8, w64}
use Rattle.std.specs.Prelude.{◌<ℤ◌}
use Rattle.std.specs.List.{Contains}
use Rattle.std.proofs.lemmas.Int.{ints}
use Rattle.std.proofs.lemmas.List.Elements.{Contains-get_or}
use Rattle.edges.specs.Edges.{EdgeData}
use Rattle.edges.specs.Graphs.{IsGraph}
use Rattle.walks.specs.Walks.{Exceeds}
use Rattle.walks.proofs.Sweeps.{exceeds-self_edge, asked_for-limited}
use Rattle.walks.proofs.recurrence.interval_of_self_edges.Goals as goal
use Rattle.walks.proofs.recurrence.interval_of_self_edges.Goals.{then-edge+in-Some, else-edge}

pub loop-edge-preserved : goal.loop-edge-preserved
loop-edge-preserved c = elim c.if-edge.branch [
  | then-edge+in-Some w ↦
      (let d : EdgeData = record { from = 0; to = 0; distance = 0; delay = pos 0 } in
      let e : EdgeData = get_or c.all-edge-items.result.now c.loop-edge.edge-index d in
      let g : IsGraph c.args.edges.now = c.all-edge-items.ensures.well_formed in
      let few : length c.args.edges.now.latencies ≤ 128 = g.few in
      let within : c.loop-edge.edge-index < length c.all-edge-items.result.now = c.loop-edge-test.true in
      let there : Contains c.args.edges.now.edges e
      = subst (λ l. Contains l e) c.all-edge-items.ensures.value (Contains-get_or c.all-edge-items.result.now c.loop-edge.edge-index d within) in
      let up : c.loop-edge.interval < w.in-Some.longer = w.in-Some.ensures.0 in
      let delay : w.from.result ≡ to_z w8 (of_z w8 e.delay) = w.from.ensures in
      let same : (w.in-Some.longer - 1) * w.from-in-loop-edge.result ≡ (w.in-Some.longer - 1) * e.distance
      = ap (λ n. (w.in-Some.longer - 1) * n) w.from-in-loop-edge.ensures in
      let told : pos ((w.in-Some.longer - 1) * w.from-in-loop-edge.result) <ℤ to_z w64 (of_z w64 w.from.result) = w.in-Some.ensures.1 in
      let more : pos ((w.in-Some.longer - 1) * e.distance) <ℤ e.delay = omega (arith, ints) in
      let x : Exceeds c.args.edges.now.edges (w.in-Some.longer - 1) = exceeds-self_edge c.args.edges.now.edges (w.in-Some.longer - 1) e there w.if-edge.true more in
      let limit : w.in-Some.longer ≤ 64 * length c.args.edges.now.latencies = asked_for-limited c.args.edges.now w.in-Some.longer g (inr x) in
      rw w.interval-is (record { from_one = omega arith; limit = omega arith; asked_for = inr x }))
  | else-edge w ↦ rw w.interval-is c.loop-edge.invariant
]
