use Rattle.std.proofs.Common.{◌≡◌, ◌<◌, ◌+◌, ◌∙◌, pos, ◌+ℤ◌, length, get_or, take, sym, ap, arith}
use Rattle.std.proofs.lemmas.Int.{ints}
use Rattle.edges.specs.Edges.{EdgeData}
use Rattle.walks.specs.Walks.{delay_of, distance_of}
use Rattle.circuits.proofs.WalkSums.{delay-more, distance-more}
use Rattle.circuits.proofs.sums.sums_of.Goals as goal

pub loop-edge-preserved : goal.loop-edge-preserved
loop-edge-preserved c =
    let i = c.loop-edge.edge-index in
    let d : EdgeData = record { from = 0; to = 0; distance = 0; delay = pos 0 } in
    let e : EdgeData = get_or c.args.edges.now i d in
    let within : i < length c.args.edges.now = c.loop-edge-test.true in
    let more : delay_of (take (i + 1) c.args.edges.now) ≡ (delay_of (take i c.args.edges.now) +ℤ e.delay) = delay-more c.args.edges.now i d within in
    let on : distance_of (take (i + 1) c.args.edges.now) ≡ distance_of (take i c.args.edges.now) + e.distance = distance-more c.args.edges.now i d within in
    record {
      delay = c.with-sums.ensures.delay ∙ ap (λ n. n +ℤ e.delay) c.loop-edge.invariant.delay ∙ sym more;
      distance = c.with-sums.ensures.distance ∙ ap (λ n. n + e.distance) c.loop-edge.invariant.distance ∙ sym on;
      low = omega (arith, ints);
      high = omega (arith, ints);
      few = omega arith;
    }
