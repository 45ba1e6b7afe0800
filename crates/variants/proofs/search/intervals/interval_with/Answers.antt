use Rattle.std.proofs.Common.{◌+◌, ◌≤◌, arith}
use Rattle.std.proofs.lemmas.Bool.{MatchBool-at_false, MatchBool-at_true}
use Rattle.loop_schedules.specs.Problems.{mii_of}
use Rattle.variants.specs.inner.Tries.{IsFailing, IsGiving, with_registers}
use Rattle.variants.proofs.Deciding.{met-interval, no-interval, risen-more, risen-none}
use Rattle.variants.proofs.Giving.{with-problem}
use Rattle.variants.proofs.search.intervals.interval_with.Goals as goal

pub loop-above-init : goal.loop-above-init
loop-above-init c = record { are = c.requires.are; next = omega arith; risen = risen-none (with_registers c.args.registers c.args.prepared.now) }

pub returns-then-gives : goal.returns-then-gives
returns-then-gives c =
    let p = c.args.prepared.now in
    let q = with_registers c.args.registers p in
    let k = c.loop-above.above in
    let same = c.mii.ensures.value in
    let there = c.in-Ok.ensures.there in
    let few : k ≤ p.ceiling = (let e = c.ceiling-above-end.ensures.value in let t = c.loop-above-test.true in omega arith) in
    record {
      are = c.gives_above.ensures.are;
      there = (omega (arith, same), omega (arith, same, few), omega (arith, same, there));
      exact = met-interval q k c.mii.result c.loop-above.invariant.risen
          (MatchBool-at_true (IsGiving q (mii_of p + k)) (IsFailing q (mii_of p + k)) c.if-gives.true c.in-Ok.ensures.exact) few same;
    }

pub loop-above-preserved : goal.loop-above-preserved
loop-above-preserved c =
    let p = c.args.prepared.now in
    let q = with_registers c.args.registers p in
    let k = c.loop-above.above in
    let there = c.in-Ok.ensures.there in
    record {
      are = c.gives_above.ensures.are;
      next = omega (arith, there);
      risen = risen-more q k (with-problem c.args.registers p c.requires.some c.requires.few c.ceiling-above-end.ensures.well_formed) c.loop-above.invariant.risen
          (MatchBool-at_false (IsGiving q (mii_of p + k)) (IsFailing q (mii_of p + k)) c.if-gives.false c.in-Ok.ensures.exact);
    }

pub returns : goal.returns
returns c = record {
  are = c.loop-above.invariant.are;
  there = tt;
  exact = no-interval (with_registers c.args.registers c.args.prepared.now) c.loop-above.above c.loop-above.invariant.risen
      (let e = c.ceiling-above-end.ensures.value in let t = c.loop-above-test.false in let u = c.loop-above.auto.above-end in omega arith);
}
