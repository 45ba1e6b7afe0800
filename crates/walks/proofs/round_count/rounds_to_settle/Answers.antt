use Rattle.std.specs.Option.{is_some}
use Rattle.std.proofs.Common.{◌≡◌, ℕ, Option, Some, None, true, false, refl, ◌+◌, ◌*◌, ◌<◌, ◌≤◌, length, get_or, subst, arith}
use Rattle.edges.specs.Graphs.{IsGraph}
use Rattle.walks.specs.inner.Reaches.{AreReaches}
use Rattle.walks.proofs.Settling.{reach-limited, reaches-more, changed-more, settles-from_same, rounds-settled, exceeds-from_unsettled, exceeds-not_fits, HaveChanged}
use Rattle.walks.proofs.round_count.rounds_to_settle.Goals as goal

none_of : (o : Option ℕ) → is_some o ≡ false → o ≡ None
none_of None h = refl
none_of (Some p) h = cc

some_of : (o : Option ℕ) → is_some o ≡ true → (p : ℕ) × (o ≡ Some p)
some_of None h = cc
some_of (Some p) h = (p, refl)

pub round-requires-clause-small : goal.round-requires-clause-small
round-requires-clause-small c = λ p below.
    let g : IsGraph c.args.edges.now = c.operations-made-end.ensures.well_formed in
    let few : length c.args.edges.now.latencies ≤ 128 = g.few in
    let all : c.operations-made-end.result ≡ length c.args.edges.now.latencies = c.operations-made-end.ensures.value in
    let made : c.loop-made.made < c.operations-made-end.result = c.loop-made-test.true in
    let h : get_or c.loop-made.numbers p 0 ≤ 64 * c.loop-made.made + 64
    = reach-limited c.args.edges.now c.args.interval c.loop-made.made c.loop-made.made p (get_or c.loop-made.numbers p 0) g below (c.loop-made.invariant.reaches p below) in
    omega arith

pub loop-made-init : goal.loop-made-init
loop-made-init c = record {
  reaches = c.set_first.ensures;
  changed = λ fewer from to. absurd (omega arith);
}

pub loop-made-preserved : goal.loop-made-preserved
loop-made-preserved c =
    let new : AreReaches c.args.edges.now c.args.interval (c.loop-made.made + 1) (c.loop-made.made + 1) c.round.new.next
    = reaches-more c.args.edges.now c.args.interval c.loop-made.made c.loop-made.numbers c.round.new.next c.operations-made-end.ensures.well_formed
    c.loop-made.invariant.reaches c.round.ensures.raised in
    let same : c.loop-made.made + 2 ≡ (c.loop-made.made + 1) + 1 = omega arith in
    let rising = some_of c.round.result c.if-is_none.ensures in
    let rise = c.round.ensures.rises rising.0 rising.1 in
    record {
      reaches = new;
      changed = subst (HaveChanged c.args.edges.now c.args.interval) same
          (changed-more c.args.edges.now c.args.interval c.loop-made.made c.loop-made.numbers c.round.new.next
          c.loop-made.invariant.reaches new rising.0 rise.0 rise.1 c.loop-made.invariant.changed);
    }

pub returns-then-is_none : goal.returns-then-is_none
returns-then-is_none c =
    let new : AreReaches c.args.edges.now c.args.interval (c.loop-made.made + 1) (c.loop-made.made + 1) c.round.new.next
    = reaches-more c.args.edges.now c.args.interval c.loop-made.made c.loop-made.numbers c.round.new.next c.operations-made-end.ensures.well_formed
    c.loop-made.invariant.reaches c.round.ensures.raised in
    let all : c.operations-made-end.result ≡ length c.args.edges.now.latencies = c.operations-made-end.ensures.value in
    let made : c.loop-made.made < c.operations-made-end.result = c.loop-made-test.true in
    record {
      exact = rounds-settled c.args.edges.now c.args.interval (c.loop-made.made + 1) (omega arith) (omega arith)
          (settles-from_same c.args.edges.now c.args.interval c.loop-made.made c.loop-made.numbers c.round.new.next
          c.loop-made.invariant.reaches new (c.round.ensures.stays (none_of c.round.result c.if-is_none.ensures)))
          c.loop-made.invariant.changed;
    }

pub unreachable-requires : goal.unreachable-requires
unreachable-requires c =
    let all : c.operations-made-end.result ≡ length c.args.edges.now.latencies = c.operations-made-end.ensures.value in
    let past : c.operations-made-end.result ≤ c.loop-made.made = c.loop-made-test.false in
    let g : IsGraph c.args.edges.now = c.operations-made-end.ensures.well_formed in
    let some : 0 < length c.args.edges.now.latencies = g.some in
    exceeds-not_fits c.args.edges.now.edges c.args.interval
    (exceeds-from_unsettled c.args.edges.now c.args.interval g (c.loop-made.invariant.changed (length c.args.edges.now.latencies) (omega arith) (omega arith)))
    c.requires.fits
