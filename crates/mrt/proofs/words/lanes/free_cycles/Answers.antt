use Rattle.std.proofs.Common.{◌<◌, ◌+◌, not, length, get_or, ap, ◌∙◌, arith}
use Rattle.std.proofs.lemmas.List.{take_all}
use Rattle.mrt.specs.declared.rosters.slot.Slot.{Slot}
use Rattle.mrt.specs.inner.Slots.{rows_in, meets_held}
use Rattle.mrt.specs.inner.Masks.{is_held}
use Rattle.mrt.proofs.slots.Lanes.{lane_more}
use Rattle.mrt.proofs.words.lanes.free_cycles.Goals as goal

pub loop-slot-preserved : goal.loop-slot-preserved
loop-slot-preserved c time k base small =
    let slots = c.args.slots.now in
    let i = c.loop-slot.slot-index in
    let zero : Slot = record { row = record { unit = 0; offset = 0 }; turn = 0; mask = 0 } in
    let lt : i < length slots = omega arith in
    let slot = c.requires.slots i zero lt in
    lane_more c.args.ii c.args.busy.now slots time k i zero c.residue.result (get_or c.loop-slot.met k 0) (get_or c.with_words-met.result k 0) (get_or c.load.result k 0) (get_or slots i zero).mask
    lt c.requires.long c.requires.words c.requires.repeats (c.residue.ensures.value time base) c.residue.ensures.below small slot.mask (c.load.ensures.each k small)
    (c.loop-slot.invariant time k base small) (c.with_words-met.ensures.each k small)

pub returns-clause-asked : goal.returns-clause-asked
returns-clause-asked c time k base small =
    let all = take_all c.loop-slot.slot-index c.args.slots.now (omega arith) in
    c.zero_lanes.ensures.each k small ∙ c.loop-slot.invariant time k base small
    ∙ ap (λ slots. not (meets_held c.args.ii (is_held c.args.busy.now) (rows_in slots) (time + k))) all
