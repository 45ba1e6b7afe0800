use Rattle.std.proofs.Common.{◌+◌, sym, subst, arith}
use Rattle.std.specs.Prelude.{Some}
use Rattle.std.proofs.lemmas.Bool.{MatchBool-at_false, MatchBool-at_true}
use Rattle.loop_schedules.specs.Problems.{mii_of}
use Rattle.variants.specs.Intervals.{IsIntervalOf, IsLeastNumber}
use Rattle.variants.specs.inner.Tries.{with_registers}
use Rattle.variants.proofs.Deciding.{least-of, more-without}
use Rattle.variants.proofs.search.least.least_number.Goals as goal

pub loop-registers-preserved : goal.loop-registers-preserved
loop-registers-preserved c =
    let p = c.args.prepared.now in
    let r = c.loop-registers.registers in
    let has = IsIntervalOf (with_registers r p) (Some (mii_of p + c.args.above)) in
    more-without p (mii_of p + c.args.above) r c.loop-registers.invariant (MatchBool-at_false has (has → ⊥) c.if-has.false c.in-Ok.ensures)

pub returns-then-has : goal.returns-then-has
returns-then-has c =
    let p = c.args.prepared.now in
    let r = c.loop-registers.registers in
    let has = IsIntervalOf (with_registers r p) (Some (mii_of p + c.args.above)) in
    least-of c.args.machine.now p (mii_of p + c.args.above) r (omega arith) (omega arith) c.requires.on c.loop-registers.invariant
    (MatchBool-at_true has (has → ⊥) c.if-has.true c.in-Ok.ensures)

pub returns : goal.returns
returns c =
    let p = c.args.prepared.now in
    let m = c.args.machine.now in
    let ii = mii_of p + c.args.above in
    let end = c.registers-registers-end.ensures.value in
    let past = c.loop-registers-test.false in
    let is = c.registers.ensures.well_formed in
    subst (IsLeastNumber m p ii) (sym c.registers.ensures.value)
    (least-of m p ii p.registers is.registers_some is.registers_few c.requires.on (λ other low high. c.loop-registers.invariant other low (omega (arith, high, end, past))) c.requires.has)
