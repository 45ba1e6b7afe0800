use Rattle.std.proofs.Common.{◌<◌, length, ap, ◌∙◌, cond, arith}
use Rattle.std.proofs.lemmas.List.{take_all}
use Rattle.mrt.specs.declared.rosters.slot.Slot.{Slot}
use Rattle.mrt.specs.inner.Slots.{rows_in}
use Rattle.mrt.specs.Taken.{takes}
use Rattle.mrt.proofs.slots.Owning.{write_more}
use Rattle.mrt.proofs.words.layout.mark.Goals as goal

pub loop-slot-preserved : goal.loop-slot-preserved
loop-slot-preserved g c =
    let held = g.L.Layout.tells c.args.width in
    let slots = c.args.slots.now in
    let k = c.loop-slot.slot-index in
    let zero : Slot = record { row = record { unit = 0; offset = 0 }; turn = 0; mask = 0 } in
    let lt : k < length slots = omega arith in
    record {
      laid = c.write.ensures.laid;
      marked = λ time unit residue base u r.
          write_more c.args.ii slots time unit residue k zero c.args.held (held c.args.words.now unit residue) (held c.loop-slot.words unit residue) (held c.write.new.words unit residue) lt
          (c.loop-slot.invariant.marked time unit residue base u r)
          (rw (c.residue.ensures.value time base) at (c.write.ensures.written unit residue u r));
    }

pub returns-clause-marked : goal.returns-clause-marked
returns-clause-marked g c time unit residue base u r =
    let all = take_all c.loop-slot.slot-index c.args.slots.now (omega arith) in
    c.loop-slot.invariant.marked time unit residue base u r
    ∙ ap (λ slots. cond (takes c.args.ii (rows_in slots) time unit residue) c.args.held (g.L.Layout.tells c.args.width c.args.words.now unit residue)) all
