use Rattle.std.proofs.Common.{◌<◌, ◌+◌, eqb, not, length, get_or, sym, ap, ◌∙◌, arith}
use Rattle.std.proofs.lemmas.Nat.Bits.{bit_at-zero}
use Rattle.std.proofs.lemmas.List.{take_all}
use Rattle.mrt.specs.declared.rosters.slot.Slot.{Slot}
use Rattle.mrt.specs.inner.Slots.{rows_in, meets_held}
use Rattle.mrt.proofs.slots.Timing.{round_more, meets_whole, all_set, none_set, bit_of_rest, still_set, not_left}
use Rattle.mrt.proofs.words.rounds.free_cycles.Goals as goal

pub loop-slot-init : goal.loop-slot-init
loop-slot-init c = record {
  asked = λ held time k tell base asked. ap (λ n. eqb n 1) (c.bits_from-met.ensures.clear k asked);
  rest = c.bits_from-met.ensures.set;
}

pub returns-then-met-clause-asked : goal.returns-then-met-clause-asked
returns-then-met-clause-asked c held time k tell base asked =
    let slots = c.args.slots.now in
    let i = c.loop-slot.slot-index in
    let zero : Slot = record { row = record { unit = 0; offset = 0 }; turn = 0; mask = 0 } in
    let lt : i < length slots = omega arith in
    let slot = c.requires.slots i zero lt in
    let small : k < c.args.ii = omega (arith, asked, c.requires.cycles) in
    let more = round_more c.args.ii c.args.rounds.now held slots time k i zero c.residue.result c.loop-slot.met c.turned-met.result lt tell slot.unit
    c.residue.ensures.below small (c.residue.ensures.value time base) (c.type_inv.rounds (get_or slots i zero).row.unit).fits
    (rw c.from.ensures at (c.turned-met.ensures.before k)) (rw c.from.ensures at (c.turned-met.ensures.after k small)) (c.loop-slot.invariant.asked held time k tell base asked) in
    let met = meets_whole c.args.ii held slots (i + 1) (time + k) (sym more ∙ all_set _ k c.if-met.true (omega (arith, small, c.requires.short))) in
    none_set k _ met

pub loop-slot-preserved : goal.loop-slot-preserved
loop-slot-preserved c =
    let slots = c.args.slots.now in
    let i = c.loop-slot.slot-index in
    let zero : Slot = record { row = record { unit = 0; offset = 0 }; turn = 0; mask = 0 } in
    let lt : i < length slots = omega arith in
    let slot = c.requires.slots i zero lt in
    record {
      asked = λ held time k tell base asked.
          let small : k < c.args.ii = omega (arith, asked, c.requires.cycles) in
          round_more c.args.ii c.args.rounds.now held slots time k i zero c.residue.result c.loop-slot.met c.turned-met.result lt tell slot.unit
          c.residue.ensures.below small (c.residue.ensures.value time base) (c.type_inv.rounds (get_or slots i zero).row.unit).fits
          (rw c.from.ensures at (c.turned-met.ensures.before k)) (rw c.from.ensures at (c.turned-met.ensures.after k small)) (c.loop-slot.invariant.asked held time k tell base asked);
      rest = λ k small past. still_set c.loop-slot.met c.turned-met.result k (c.loop-slot.invariant.rest k small past);
    }

pub returns-clause-asked : goal.returns-clause-asked
returns-clause-asked c held time k tell base asked =
    let all = take_all c.loop-slot.slot-index c.args.slots.now (omega arith) in
    let small : k < 64 = omega (arith, asked, c.requires.cycles, c.requires.short) in
    bit_of_rest c.loop-slot.met k c.loop-slot.auto.met-fits.fits small ∙ ap not (c.loop-slot.invariant.asked held time k tell base asked)
    ∙ ap (λ slots. not (meets_held c.args.ii held (rows_in slots) (time + k))) all

pub returns-then-met-clause-rest : goal.returns-then-met-clause-rest
returns-then-met-clause-rest c k small past = bit_at-zero k

pub returns-clause-rest : goal.returns-clause-rest
returns-clause-rest c k small past = not_left c.loop-slot.met k c.loop-slot.auto.met-fits.fits small (c.loop-slot.invariant.rest k small past)
