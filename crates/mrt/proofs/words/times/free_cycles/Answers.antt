use Rattle.std.proofs.Common.{◌<◌, ◌+◌, eqb, not, length, sym, ap, ◌∙◌, arith}
use Rattle.std.proofs.lemmas.Nat.Bits.{bit_at-zero}
use Rattle.std.proofs.lemmas.List.{take_all}
use Rattle.mrt.specs.declared.rosters.slot.Slot.{Slot}
use Rattle.mrt.specs.inner.Slots.{rows_in, meets_held}
use Rattle.mrt.proofs.slots.Timing.{cycle_more, meets_whole, all_set, none_set, bit_of_rest, still_set, not_left}
use Rattle.mrt.proofs.words.times.free_cycles.Goals as goal

pub returns-then-met-clause-asked : goal.returns-then-met-clause-asked
returns-then-met-clause-asked c held time k tell base small asked =
    let slots = c.args.slots.now in
    let i = c.loop-slot.slot-index in
    let zero : Slot = record { row = record { unit = 0; offset = 0 }; turn = 0; mask = 0 } in
    let lt : i < length slots = omega arith in
    let slot = c.requires.slots i zero lt in
    let more = cycle_more c.args.ii c.args.words c.args.times.now held slots time k i zero c.residue.result c.loop-slot.met c.sixty_four-met.result lt tell slot.unit
    (omega (arith, c.residue.ensures.below)) (c.residue.ensures.value time base) (c.sixty_four-met.ensures k small) (c.loop-slot.invariant.asked held time k tell base small asked) in
    let met = meets_whole c.args.ii held slots (i + 1) (time + k) (sym more ∙ all_set _ k c.if-met.true small) in
    none_set k _ met

pub loop-slot-preserved : goal.loop-slot-preserved
loop-slot-preserved c =
    let slots = c.args.slots.now in
    let i = c.loop-slot.slot-index in
    let zero : Slot = record { row = record { unit = 0; offset = 0 }; turn = 0; mask = 0 } in
    let lt : i < length slots = omega arith in
    let slot = c.requires.slots i zero lt in
    record {
      asked = λ held time k tell base small asked.
          cycle_more c.args.ii c.args.words c.args.times.now held slots time k i zero c.residue.result c.loop-slot.met c.sixty_four-met.result lt tell slot.unit
          (omega (arith, c.residue.ensures.below)) (c.residue.ensures.value time base) (c.sixty_four-met.ensures k small) (c.loop-slot.invariant.asked held time k tell base small asked);
      rest = λ k small past. still_set c.loop-slot.met c.sixty_four-met.result k (c.loop-slot.invariant.rest k small past);
    }

pub returns-clause-asked : goal.returns-clause-asked
returns-clause-asked c held time k tell base small asked =
    let all = take_all c.loop-slot.slot-index c.args.slots.now (omega arith) in
    bit_of_rest c.loop-slot.met k c.loop-slot.auto.met-fits.fits small ∙ ap not (c.loop-slot.invariant.asked held time k tell base small asked)
    ∙ ap (λ slots. not (meets_held c.args.ii held (rows_in slots) (time + k))) all

pub loop-slot-init : goal.loop-slot-init
loop-slot-init c = record {
  asked = λ held time k tell base small asked. ap (λ n. eqb n 1) (c.bits_from-met.ensures.clear k asked);
  rest = c.bits_from-met.ensures.set;
}

pub returns-then-met-clause-rest : goal.returns-then-met-clause-rest
returns-then-met-clause-rest c k small past = bit_at-zero k

pub returns-clause-rest : goal.returns-clause-rest
returns-clause-rest c k small past = not_left c.loop-slot.met k c.loop-slot.auto.met-fits.fits small (c.loop-slot.invariant.rest k small past)
