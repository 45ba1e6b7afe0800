use Rattle.std.proofs.Common.{◌≡◌, ◌∙◌, ◌+◌, ap, not, sym, arith}
use Rattle.std.proofs.lemmas.List.Sums.{position_or_len_is}
use Rattle.loop_lines.proofs.Lanes.{none_more}
use Rattle.loop_lines.proofs.NameBytes.{stands_in_none}
use Rattle.loop_lines.proofs.name.count_name.Goals as goal

pub returns-then-ahead-lt-LANES : goal.returns-then-ahead-lt-LANES
returns-then-ahead-lt-LANES c =
    let v = c.loop-at.invariant in
    let within = v.within in
    let room = c.loop-at-test.true in
    let few = c.if-ahead-lt-LANES.true in
    sym (position_or_len_is stands_in_none c.args.text.now (c.loop-at.at + c.count_named-ahead.result) 0 (omega (arith, within, room, few))
    (none_more stands_in_none c.args.text.now c.loop-at.at c.count_named-ahead.result v.none (λ k lt. ap not (c.count_named-ahead.ensures.before k lt)))
    (λ _. ap not (c.count_named-ahead.ensures.here few)))

pub loop-at-preserved : goal.loop-at-preserved
loop-at-preserved c =
    let v = c.loop-at.invariant in
    let within = v.within in
    let room = c.loop-at-test.true in
    let all : c.count_named-ahead.result ≡ 16 = omega (arith, c.count_named-ahead.ensures.few, c.if-ahead-lt-LANES.false) in
    record {
      within = omega (arith, within, room);
      none = λ k lt. none_more stands_in_none c.args.text.now c.loop-at.at c.count_named-ahead.result v.none (λ j less. ap not (c.count_named-ahead.ensures.before j less)) k (omega (arith, lt, all));
    }

pub returns-then-ahead-lt-HALF : goal.returns-then-ahead-lt-HALF
returns-then-ahead-lt-HALF c =
    let v = c.loop-at-2.invariant in
    let within = v.within in
    let room = c.loop-at-2-test.true in
    let few = c.if-ahead-lt-HALF.true in
    sym (position_or_len_is stands_in_none c.args.text.now (c.loop-at-2.at + c.count_named-ahead-in-loop-at-2.result) 0 (omega (arith, within, room, few))
    (none_more stands_in_none c.args.text.now c.loop-at-2.at c.count_named-ahead-in-loop-at-2.result v.none (λ k lt. ap not (c.count_named-ahead-in-loop-at-2.ensures.before k lt)))
    (λ _. ap not (c.count_named-ahead-in-loop-at-2.ensures.here few)))

pub loop-at-2-preserved : goal.loop-at-2-preserved
loop-at-2-preserved c =
    let v = c.loop-at-2.invariant in
    let within = v.within in
    let room = c.loop-at-2-test.true in
    let all : c.count_named-ahead-in-loop-at-2.result ≡ 8 = omega (arith, c.count_named-ahead-in-loop-at-2.ensures.few, c.if-ahead-lt-HALF.false) in
    record {
      within = omega (arith, within, room);
      none = λ k lt. none_more stands_in_none c.args.text.now c.loop-at-2.at c.count_named-ahead-in-loop-at-2.result v.none (λ j less. ap not (c.count_named-ahead-in-loop-at-2.ensures.before j less)) k (omega (arith, lt, all));
    }

pub returns-else-is_name_byte : goal.returns-else-is_name_byte
returns-else-is_name_byte c =
    let v = c.loop-at-3.invariant in
    sym (position_or_len_is stands_in_none c.args.text.now c.loop-at-3.at 0 v.within v.none (λ _. ap not (sym c.is_name_byte.ensures ∙ c.if-is_name_byte.false)))

pub returns-after-loop-at-3 : goal.returns-after-loop-at-3
returns-after-loop-at-3 c =
    let v = c.loop-at-3.invariant in
    let past = c.loop-at-3-test.false in
    sym (position_or_len_is stands_in_none c.args.text.now c.loop-at-3.at 0 v.within v.none (λ lt. absurd (omega (arith, past, lt))))
