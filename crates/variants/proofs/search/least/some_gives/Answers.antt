use Rattle.std.proofs.Common.{◌<◌, ◌+◌, length, arith}
use Rattle.std.proofs.lemmas.Bool.{MatchBool-at_false, MatchBool-at_true}
use Rattle.loop_schedules.specs.Problems.{mii_of}
use Rattle.variants.specs.inner.Tries.{IsFailing, IsGiving, with_registers}
use Rattle.variants.proofs.Deciding.{failing-more}
use Rattle.variants.proofs.Giving.{item-tried}
use Rattle.variants.proofs.search.least.some_gives.Goals as goal

pub returns-then-gives : goal.returns-then-gives
returns-then-gives c =
    let p = c.args.prepared.now in
    let q = with_registers c.args.registers p in
    let i = c.loop-index.index in
    let below : i < length c.args.tries.now = omega (arith, c.loop-index-test.true, c.requires.count) in
    let tried = item-tried p c.args.tries.now i c.index-tries-index.result c.requires.are below c.index-tries-index.is in
    (i, c.loop-index-test.true, MatchBool-at_true (IsGiving q (mii_of p + i)) (IsFailing q (mii_of p + i)) c.if-gives.true (c.in-Ok.ensures p (mii_of p + i) tried))

pub loop-index-preserved : goal.loop-index-preserved
loop-index-preserved c =
    let p = c.args.prepared.now in
    let q = with_registers c.args.registers p in
    let i = c.loop-index.index in
    let below : i < length c.args.tries.now = omega (arith, c.loop-index-test.true, c.requires.count) in
    let tried = item-tried p c.args.tries.now i c.index-tries-index.result c.requires.are below c.index-tries-index.is in
    failing-more q i c.loop-index.invariant (MatchBool-at_false (IsGiving q (mii_of p + i)) (IsFailing q (mii_of p + i)) c.if-gives.false (c.in-Ok.ensures p (mii_of p + i) tried))
