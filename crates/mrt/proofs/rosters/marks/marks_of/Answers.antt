use Rattle.std.proofs.Common.{◌≡◌, ◌+◌, ◌-◌, ◌<◌, length, get_or, drop, subst, arith}
use Rattle.std.proofs.lemmas.List.{take_rest}
use Rattle.mrt.specs.declared.rosters.slot.Slot.{Slot}
use Rattle.mrt.specs.inner.Marks.{Tells}
use Rattle.mrt.specs.inner.Slots.{rows_in, HasUnits}
use Rattle.mrt.proofs.slots.Needing.{HasUnits-before, needs_not, meets_none_of}
use Rattle.mrt.proofs.slots.Gaps.{collide, Tells-before, Tells-apart}
use Rattle.mrt.proofs.rosters.marks.marks_of.Goals as goal
use Rattle.mrt.proofs.rosters.marks.marks_of.Goals.{then-units-slot-ne0, else-units-slot-ne0}

pub loop-i-preserved : goal.loop-i-preserved
loop-i-preserved c =
    let s = c.args.slots.now in
    let i = c.loop-i.i - 1 in
    let zero : Slot = record { row = record { unit = 0; offset = 0 }; turn = 0; mask = 0 } in
    let lt : i < length s = omega (arith, c.loop-i-test.true, c.loop-i.invariant.within) in
    let next : c.loop-i.i ≡ i + 1 = omega (arith, c.loop-i-test.true) in
    let slot = get_or s i zero in
    record {
      within = omega (arith, lt);
      units = λ ii all.
          let has : HasUnits c.loop-i.units (rows_in (drop (i + 1) s)) = subst (λ n. HasUnits c.loop-i.units (rows_in (drop n s))) next (c.loop-i.invariant.units ii all) in
          HasUnits-before c.loop-i.units slot.mask s i zero lt (all i zero lt).mask has;
      gaps = λ ii all.
          let told : Tells c.loop-i.gaps (collide (drop (i + 1) s)) = subst (λ n. Tells c.loop-i.gaps (collide (drop n s))) next (c.loop-i.invariant.gaps ii all) in
          elim c.if-units-slot-ne0.branch [
            | then-units-slot-ne0 w ↦
                rw w.gaps-is (Tells-before s i zero lt c.loop-i.gaps told w.gaps_between-gaps.result (rw (take_rest s (i + 1)) at w.gaps_between-gaps.ensures))
            | else-units-slot-ne0 w ↦
                let has : HasUnits c.loop-i.units (rows_in (drop (i + 1) s)) = subst (λ n. HasUnits c.loop-i.units (rows_in (drop n s))) next (c.loop-i.invariant.units ii all) in
                let none = needs_not c.loop-i.units slot.mask slot.row.unit _ (all i zero lt).mask has w.if-units-slot-ne0.false in
                rw w.gaps-is (Tells-apart s i zero lt c.loop-i.gaps told (λ at. meets_none_of at slot.row (rows_in (drop (i + 1) s)) none))
          ];
    }

pub returns-clause-units : goal.returns-clause-units
returns-clause-units c ii all =
    let all_seen : c.loop-i.i ≡ 0 = omega (arith, c.loop-i-test.false) in
    subst (λ n. HasUnits c.loop-i.units (rows_in (drop n c.args.slots.now))) all_seen (c.loop-i.invariant.units ii all)

pub returns-clause-gaps : goal.returns-clause-gaps
returns-clause-gaps c ii all =
    let all_seen : c.loop-i.i ≡ 0 = omega (arith, c.loop-i-test.false) in
    subst (λ n. Tells c.loop-i.gaps (collide (drop n c.args.slots.now))) all_seen (c.loop-i.invariant.gaps ii all)
