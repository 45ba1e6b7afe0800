use Rattle.std.proofs.Common.{rules, Some, ◌≡◌, ◌≤◌, ◌<◌, ◌+◌, ◌*◌, pos, ◌+ℤ◌, ◌-ℤ◌, length, get_or, take, ◌∙◌, sym, ap, subst, arith, to_z, of_z, w64}
use Rattle.std.specs.Prelude.{◌<ℤ◌, ◌≤ℤ◌}
use mir.Val.{SFits}
use Rattle.std.proofs.lemmas.Int.{ints, to_z-of_z}
use Rattle.std.proofs.lemmas.List.{take_more, take_all}
use lib.IntN.{nat_abs}
use Rattle.edges.specs.Edges.{EdgeData}
use Rattle.walks.proofs.Raises.{less-from_test, no_less-from_test, pos-nat_abs}
use Rattle.circuits.specs.inner.Layers.{IsFarthest}
use Rattle.circuits.proofs.Farthest.{farthest-none, farthest-longer, farthest-kept}
use Rattle.circuits.proofs.layer.farthest.Goals as goal
use Rattle.circuits.proofs.layer.farthest.Goals.{then-reached-reach, else-reached-reach}

pub loop-edge-init : goal.loop-edge-init
loop-edge-init c =
    let small : c.args.own ≤ 1048576 = c.requires.own_small in
    record {
      few = omega arith;
      farthest = farthest-none c.args.interval c.args.lengths.now c.args.own;
    }

pub loop-edge-preserved : goal.loop-edge-preserved
loop-edge-preserved c =
    let d : EdgeData = record { from = 0; to = 0; distance = 0; delay = pos 0 } in
    let e : EdgeData = get_or c.args.outgoing.now c.loop-edge.edge-index d in
    let within : c.loop-edge.edge-index < length c.args.outgoing.now = c.loop-edge-test.true in
    let small : get_or c.args.lengths.now e.to 0 ≤ 1048576 = (c.requires.small c.loop-edge.edge-index d within).1 in
    let few : c.loop-edge.reach ≤ 1048703 = c.loop-edge.invariant.few in
    let is : c.through-reached.result ≡ ((pos (get_or c.args.lengths.now e.to 0) +ℤ e.delay) -ℤ pos (c.args.interval * e.distance)) = c.through-reached.ensures.exact in
    let own : to_z w64 c.loop-edge.reach ≡ pos c.loop-edge.reach = omega (arith, ints) in
    let fits : SFits w64 c.through-reached.result = search rules in
    let near : c.through-reached.result ≤ℤ pos (get_or c.args.lengths.now e.to 0 + 127) = c.through-reached.ensures.near in
    let same : to_z w64 (of_z w64 c.through-reached.result) ≡ c.through-reached.result = to_z-of_z w64 c.through-reached.result fits in
    let more = take_more c.args.outgoing.now c.loop-edge.edge-index d within in
    elim c.if-reached-reach.branch [
      | then-reached-reach w ↦
          (let above : pos c.loop-edge.reach <ℤ c.through-reached.result
          = less-from_test (to_z w64 c.loop-edge.reach) (to_z w64 (of_z w64 c.through-reached.result)) (pos c.loop-edge.reach) c.through-reached.result own same w.if-reached-reach.true in
          let new : pos c.if-reached-reach.reach ≡ c.through-reached.result
          = ap pos (w.reach-is ∙ ap nat_abs same) ∙ pos-nat_abs c.loop-edge.reach c.through-reached.result above in
          rw w.first-is (record {
            few = omega (arith, ints);
            farthest = subst (λ l. IsFarthest l c.args.interval c.args.lengths.now c.args.own c.if-reached-reach.reach (Some e)) (sym more)
                (farthest-longer (take c.loop-edge.edge-index c.args.outgoing.now) c.args.interval c.args.lengths.now c.args.own c.loop-edge.reach c.if-reached-reach.reach
                c.loop-edge.first e c.through-reached.result c.loop-edge.invariant.farthest is above new);
          }))
      | else-reached-reach w ↦
          (let below : c.through-reached.result ≤ℤ pos c.loop-edge.reach
          = no_less-from_test (to_z w64 c.loop-edge.reach) (to_z w64 (of_z w64 c.through-reached.result)) (pos c.loop-edge.reach) c.through-reached.result own same w.if-reached-reach.false in
          rw (w.reach-is, w.first-is) (record {
            few = few;
            farthest = subst (λ l. IsFarthest l c.args.interval c.args.lengths.now c.args.own c.loop-edge.reach c.loop-edge.first) (sym more)
                (farthest-kept (take c.loop-edge.edge-index c.args.outgoing.now) c.args.interval c.args.lengths.now c.args.own c.loop-edge.reach
                c.loop-edge.first e c.through-reached.result c.loop-edge.invariant.farthest is below);
          }))
    ]

pub returns : goal.returns
returns c =
    let past : length c.args.outgoing.now ≤ c.loop-edge.edge-index = c.loop-edge-test.false in
    subst (λ l. IsFarthest l c.args.interval c.args.lengths.now c.args.own c.loop-edge.reach c.loop-edge.first) (take_all c.loop-edge.edge-index c.args.outgoing.now past)
    c.loop-edge.invariant.farthest
