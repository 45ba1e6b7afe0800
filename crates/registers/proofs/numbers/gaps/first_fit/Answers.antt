use Rattle.std.proofs.Common.{◌<◌, length, get_or, arith}
use Rattle.registers.proofs.allotted.Least.{place-within}
use Rattle.registers.specs.declared.numbers.gaps.Gap.{Gap}
use Rattle.registers.proofs.allotted.Freed.{one-there}
use Rattle.registers.proofs.allotted.Fitting.{none-small, none-late, first-found}
use Rattle.registers.proofs.numbers.gaps.first_fit.Goals.{then-arc-gap+else-turn-arc, else-arc-gap}
use Rattle.registers.proofs.numbers.gaps.first_fit.Goals as goal

pub returns-then-turn-arc : goal.returns-then-turn-arc
returns-then-turn-arc c =
    let none : Gap = record { start = 0; room = 0 } in
    let t : c.loop-k.k < length c.args.gaps.now = c.loop-k-test.true in
    first-found c.args.gaps.now 4194304 c.args.arc.phase c.args.arc.length c.args.from c.loop-k.k c.max-turn.result (get_or c.args.gaps.now c.loop-k.k none) c.requires.order c.requires.phase
    (one-there c.args.gaps.now c.loop-k.k none t) c.max-turn.ensures c.if-turn-arc.true c.loop-k.invariant

pub loop-k-preserved : goal.loop-k-preserved
loop-k-preserved c =
    let none : Gap = record { start = 0; room = 0 } in
    let t : c.loop-k.k < length c.args.gaps.now = c.loop-k-test.true in
    elim c.if-arc-gap.branch [
      | then-arc-gap+else-turn-arc w ↦
          none-late c.args.gaps.now c.args.arc.phase c.args.arc.length c.args.from c.loop-k.k w.max-turn.result (get_or c.args.gaps.now c.loop-k.k none) c.requires.phase
          (one-there c.args.gaps.now c.loop-k.k none t) w.max-turn.ensures w.if-turn-arc.false c.loop-k.invariant
      | else-arc-gap w ↦
          none-small c.args.gaps.now c.args.arc.phase c.args.arc.length c.args.from c.loop-k.k (get_or c.args.gaps.now c.loop-k.k none)
          (one-there c.args.gaps.now c.loop-k.k none t) w.if-arc-gap.false c.loop-k.invariant
    ]

pub returns : goal.returns
returns c = λ t le f. let w = c.loop-k-test.false in let n = place-within c.args.gaps.now f.1.0 f.0 f.1.1 in c.loop-k.invariant f.0 t (omega arith) le f.1
