use Rattle.std.proofs.Common.{◌<◌, length, get_or, refl, arith}
use Rattle.std.specs.Int.{abs_diff}
use Rattle.std.proofs.lemmas.Nat.{one_shl}
use Rattle.std.proofs.lemmas.List.{take_all}
use Rattle.mrt.specs.declared.rosters.slot.Slot.{Slot}
use Rattle.mrt.proofs.slots.Gaps.{Tells-one, Tells-other}
use Rattle.mrt.proofs.rosters.marks.gaps_between.Goals as goal
use Rattle.mrt.proofs.rosters.marks.gaps_between.Goals.{then-slot-other, else-slot-other}

pub loop-other-preserved : goal.loop-other-preserved
loop-other-preserved c =
    let others = c.args.others.now in
    let row = c.args.slot.now.row in
    let k = c.loop-other.other-index in
    let zero : Slot = record { row = record { unit = 0; offset = 0 }; turn = 0; mask = 0 } in
    let lt : k < length others = omega arith in
    elim c.if-slot-other.branch [
      | then-slot-other w ↦
          let gap = abs_diff row.offset (get_or others k zero).row.offset in
          let few : gap < 64 = omega (arith, c.requires.offset, c.requires.offsets k zero lt) in
          rw (w.gaps-is, w.abs_diff.ensures) (Tells-one row others k zero lt c.loop-other.gaps c.loop-other.invariant _ gap (one_shl gap 64 few) few w.if-slot-other.true refl)
      | else-slot-other w ↦ rw w.gaps-is (Tells-other row others k zero lt c.loop-other.gaps c.loop-other.invariant w.if-slot-other.false)
    ]

pub returns : goal.returns
returns c = rw (take_all c.loop-other.other-index c.args.others.now (omega arith)) at c.loop-other.invariant
