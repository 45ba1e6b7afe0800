use Rattle.std.proofs.Common.{◌≡◌, ◌==◌, ◌+◌, sym, arith, eqb, eq-eqb}
use Rattle.std.proofs.lemmas.List.Sums.{position_or_len_is}
use Rattle.loop_lines.proofs.Lanes.{none_more}
use Rattle.loop_lines.proofs.feeds.count_line.Goals as goal

pub returns-then-ahead-lt-LANES : goal.returns-then-ahead-lt-LANES
returns-then-ahead-lt-LANES c =
    let v = c.loop-at.invariant in
    let within = v.within in
    let room = c.loop-at-test.true in
    let few = c.if-ahead-lt-LANES.true in
    sym (position_or_len_is (λ x. x == 10) c.args.text.now (c.loop-at.at + c.count_ahead-ahead.result) 0 (omega (arith, within, room, few))
    (none_more (λ x. eqb x 10) c.args.text.now c.loop-at.at c.count_ahead-ahead.result v.none c.count_ahead-ahead.ensures.before)
    (λ _. c.count_ahead-ahead.ensures.here few))

pub loop-at-preserved : goal.loop-at-preserved
loop-at-preserved c =
    let v = c.loop-at.invariant in
    let within = v.within in
    let room = c.loop-at-test.true in
    let all : c.count_ahead-ahead.result ≡ 16 = omega (arith, c.count_ahead-ahead.ensures.few, c.if-ahead-lt-LANES.false) in
    record {
      within = omega (arith, within, room);
      none = λ k lt. none_more (λ x. eqb x 10) c.args.text.now c.loop-at.at c.count_ahead-ahead.result v.none c.count_ahead-ahead.ensures.before k (omega (arith, lt, all));
    }

pub returns-else-text-at-ne10 : goal.returns-else-text-at-ne10
returns-else-text-at-ne10 c =
    let v = c.loop-at-2.invariant in
    sym (position_or_len_is (λ x. x == 10) c.args.text.now c.loop-at-2.at 0 v.within v.none (λ _. eq-eqb _ _ c.if-text-at-ne10.false))

pub returns-after-loop-at-2 : goal.returns-after-loop-at-2
returns-after-loop-at-2 c =
    let v = c.loop-at-2.invariant in
    let past = c.loop-at-2-test.false in
    sym (position_or_len_is (λ x. x == 10) c.args.text.now c.loop-at-2.at 0 v.within v.none (λ lt. absurd (omega (arith, past, lt))))
