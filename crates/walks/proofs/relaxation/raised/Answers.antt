use Rattle.std.proofs.Common.{rules, ◌≡◌, ◌≤◌, ◌<◌, ◌+◌, ◌*◌, pos, ◌+ℤ◌, ◌-ℤ◌, length, get_or, take, ◌∙◌, sym, ap, subst, arith, to_z, of_z, w64}
use Rattle.std.specs.Prelude.{◌<ℤ◌, ◌≤ℤ◌}
use mir.Val.{SFits}
use Rattle.std.proofs.lemmas.Int.{ints, to_z-of_z}
use Rattle.std.proofs.lemmas.List.{take_more, take_all}
use lib.IntN.{nat_abs}
use Rattle.edges.specs.Edges.{EdgeData}
use Rattle.walks.specs.inner.Reaches.{IsRaised}
use Rattle.walks.proofs.Raises.{IsRaised-none, IsRaised-higher, IsRaised-kept, less-from_test, no_less-from_test, pos-nat_abs}
use Rattle.walks.proofs.relaxation.raised.Goals as goal
use Rattle.walks.proofs.relaxation.raised.Goals.{then-reached-number, else-reached-number}

pub loop-place-init : goal.loop-place-init
loop-place-init c =
    let small : c.args.own ≤ 2097152 = c.requires.own_small in
    record {
      few = omega arith;
      raised = IsRaised-none c.args.interval c.args.numbers.now c.args.own;
      via = λ less. absurd (omega arith);
    }

pub loop-place-preserved : goal.loop-place-preserved
loop-place-preserved c =
    let d : EdgeData = record { from = 0; to = 0; distance = 0; delay = pos 0 } in
    let e : EdgeData = get_or c.args.outgoing.now c.loop-place.place d in
    let within : c.loop-place.place < length c.args.outgoing.now = c.loop-place-test.true in
    let small : get_or c.args.numbers.now e.to 0 ≤ 2097152 = (c.requires.small c.loop-place.place d within).1 in
    let few : c.loop-place.number ≤ 2097280 = c.loop-place.invariant.few in
    let is : c.through-reached.result ≡ ((pos (get_or c.args.numbers.now e.to 0) +ℤ e.delay) -ℤ pos (c.args.interval * e.distance)) = c.through-reached.ensures.exact in
    let own : to_z w64 c.loop-place.number ≡ pos c.loop-place.number = omega (arith, ints) in
    let fits : SFits w64 c.through-reached.result = search rules in
    let near : c.through-reached.result ≤ℤ pos (get_or c.args.numbers.now e.to 0 + 127) = c.through-reached.ensures.near in
    let same : to_z w64 (of_z w64 c.through-reached.result) ≡ c.through-reached.result = to_z-of_z w64 c.through-reached.result fits in
    let more = take_more c.args.outgoing.now c.loop-place.place d within in
    elim c.if-reached-number.branch [
      | then-reached-number w ↦
          (let above : pos c.loop-place.number <ℤ c.through-reached.result
          = less-from_test (to_z w64 c.loop-place.number) (to_z w64 (of_z w64 c.through-reached.result)) (pos c.loop-place.number) c.through-reached.result own same w.if-reached-number.true in
          let new : pos c.if-reached-number.number ≡ c.through-reached.result
          = ap pos (w.number-is ∙ ap nat_abs same) ∙ pos-nat_abs c.loop-place.number c.through-reached.result above in
          record {
            few = omega (arith, ints);
            raised = subst (λ l. IsRaised l c.args.interval c.args.numbers.now c.args.own c.if-reached-number.number) (sym more)
                (IsRaised-higher (take c.loop-place.place c.args.outgoing.now) c.args.interval c.args.numbers.now c.args.own c.loop-place.number c.if-reached-number.number e
                c.through-reached.result c.loop-place.invariant.raised is above new);
            via = λ less. rw w.via-is within;
          })
      | else-reached-number w ↦
          (let below : c.through-reached.result ≤ℤ pos c.loop-place.number
          = no_less-from_test (to_z w64 c.loop-place.number) (to_z w64 (of_z w64 c.through-reached.result)) (pos c.loop-place.number) c.through-reached.result own same w.if-reached-number.false in
          rw (w.number-is, w.via-is) (record {
            few = few;
            raised = subst (λ l. IsRaised l c.args.interval c.args.numbers.now c.args.own c.loop-place.number) (sym more)
                (IsRaised-kept (take c.loop-place.place c.args.outgoing.now) c.args.interval c.args.numbers.now c.args.own c.loop-place.number e
                c.through-reached.result c.loop-place.invariant.raised is below);
            via = c.loop-place.invariant.via;
          }))
    ]

pub returns-clause-raised : goal.returns-clause-raised
returns-clause-raised c =
    let past : length c.args.outgoing.now ≤ c.loop-place.place = c.loop-place-test.false in
    subst (λ l. IsRaised l c.args.interval c.args.numbers.now c.args.own c.loop-place.number) (take_all c.loop-place.place c.args.outgoing.now past) c.loop-place.invariant.raised
