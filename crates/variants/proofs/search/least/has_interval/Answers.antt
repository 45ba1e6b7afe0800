use Rattle.std.proofs.Common.{◌+◌}
use Rattle.std.proofs.lemmas.Bool.{MatchBool-at_false, MatchBool-at_true}
use Rattle.loop_schedules.specs.Problems.{mii_of}
use Rattle.variants.specs.inner.Tries.{IsFailing, IsGiving, with_registers}
use Rattle.variants.proofs.Deciding.{decided, fails-itself}
use Rattle.variants.proofs.Giving.{item-tried, with-problem}
use Rattle.variants.proofs.search.least.has_interval.Goals as goal

pub returns-then-not-branch : goal.returns-then-not-branch
returns-then-not-branch c =
    let p = c.args.prepared.now in
    let q = with_registers c.args.registers p in
    let k = c.args.above in
    let tried = item-tried p c.args.tries.now k c.index-tries-above.result c.requires.are c.requires.there c.index-tries-above.is in
    fails-itself q k (with-problem c.args.registers p c.requires.some c.requires.few c.mii.ensures.well_formed)
    (MatchBool-at_false (IsGiving q (mii_of p + k)) (IsFailing q (mii_of p + k)) c.if-not-branch.true (c.in_ok-gives.ensures p (mii_of p + k) tried))

pub returns : goal.returns
returns c =
    let p = c.args.prepared.now in
    let q = with_registers c.args.registers p in
    let k = c.args.above in
    let tried = item-tried p c.args.tries.now k c.index-tries-above.result c.requires.are c.requires.there c.index-tries-above.is in
    decided q k c.in_ok-some_gives.field-0 (with-problem c.args.registers p c.requires.some c.requires.few c.mii.ensures.well_formed) c.requires.within
    (MatchBool-at_true (IsGiving q (mii_of p + k)) (IsFailing q (mii_of p + k)) c.if-not-branch.false (c.in_ok-gives.ensures p (mii_of p + k) tried))
    c.in_ok-some_gives.ensures
