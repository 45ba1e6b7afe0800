use Rattle.std.proofs.Common.{◌≡◌, ℕ, Bool, ap, ◌∙◌, arith}
use Rattle.std.specs.Prelude.{count_by, is_some}
use Rattle.std.specs.Int.{from_bool}
use Rattle.std.specs.List.{range_with_len}
use Rattle.loop_schedules.specs.Schedules.{ScheduleData}
use Rattle.figures.specs.Slots.{busy_count, slot_taker}
use Rattle.figures.proofs.Busy.{bit-few, count-more}
use Rattle.figures.proofs.takers.Takers.busy.Goals as goal

pub loop-row-preserved : goal.loop-row-preserved
loop-row-preserved c =
    let p : ℕ → Bool = λ n. is_some (slot_taker c.args.self.now c.args.unit n) in
    let row = c.loop-row.row in
    let taken : c.from-busy.result ≡ from_bool (p row) = c.from-busy.ensures ∙ ap from_bool (c.is_some.ensures ∙ ap is_some c.taker.ensures) in
    let few = bit-few (p row) in
    let more = count-more p row in
    let i = c.loop-row.invariant in
    record { few = omega arith; counted = omega arith }

pub returns : goal.returns
unfolding busy_count
returns c =
    let schedule = c.args.self.now in
    let p : ℕ → Bool = λ n. is_some (slot_taker schedule c.args.unit n) in
    let same : c.ii-row-end.result ≡ schedule.ii = c.ii-row-end.ensures.value ∙ ap (λ (s : ScheduleData). s.ii) c.self.view_is in
    let end = c.loop-row.auto.row-end in
    let past = c.loop-row-test.false in
    let e : c.loop-row.row ≡ schedule.ii = omega arith in
    record {
      count = c.loop-row.invariant.counted ∙ ap (λ n. count_by p (range_with_len 0 n)) e;
      few = let most = c.ii-row-end.ensures.well_formed.ii_few in let few = c.loop-row.invariant.few in omega arith;
    }
