use Rattle.std.proofs.Common.{◌≡◌, ℕ, ◌+◌, ◌*◌, ◌<◌, ◌≤◌, List, length, ap, ◌∙◌, arith, slice_index}
use Rattle.std.specs.Prelude.{◌==◌}
use Rattle.std.proofs.lemmas.List.Sums.{count_by-le-length}
use Rattle.machine_data.specs.declared.alternative.Row.{Row}
use Rattle.unit_bound.specs.Units.{use_of}
use Rattle.outcome_text.proofs.Uses.{use-more}
use Rattle.outcome_text.proofs.units.count_uses.Goals as goal

pub loop-number-init : goal.loop-number-init
loop-number-init c = record {
  uses = record { each = c.requires.long; counted = λ unit lt. c.requires.none unit };
  few = λ unit lt. let none = c.requires.none unit in omega arith;
}

pub count_rows-requires-clause-room : goal.count_rows-requires-clause-room
count_rows-requires-clause-room c = λ unit lt.
    let few : slice_index c.loop-number.counts unit ≤ 16 * c.loop-number.number = c.loop-number.invariant.few unit lt in
    let most : length c.args.operations.now ≤ 128 = c.requires.few in
    let here : c.loop-number.number < length c.args.operations.now = omega arith in
    omega (arith, few, most, here)

pub loop-number-preserved : goal.loop-number-preserved
loop-number-preserved c =
    let operations = c.args.operations.now in
    let choices = c.args.choices.now in
    let n : ℕ = c.loop-number.number in
    let rows : List Row = c.rows_at.result.now in
    let each : length choices ≡ length operations = c.requires.each in
    let within : n < length operations = omega arith in
    let there : n < length choices = omega arith in
    let long : length c.loop-number.counts ≡ 256 = c.loop-number.invariant.uses.each in
    let short : length rows ≤ 16 = c.rows_at.ensures.few in
    record {
      uses = record {
        each = c.count_rows.ensures.each ∙ long;
        counted = λ unit lt.
            c.count_rows.ensures.counted unit (omega (arith, long, lt))
            ∙ use-more operations choices n unit (slice_index c.loop-number.counts unit) (use_of rows unit) within there (c.loop-number.invariant.uses.counted unit lt)
            (ap (λ (rs : List Row). use_of rs unit) c.rows_at.ensures.value);
      };
      few = λ unit lt.
          let now : slice_index c.count_rows.new.counts unit ≡ slice_index c.loop-number.counts unit + use_of rows unit = c.count_rows.ensures.counted unit (omega (arith, long, lt)) in
          let before : slice_index c.loop-number.counts unit ≤ 16 * n = c.loop-number.invariant.few unit lt in
          let more : use_of rows unit ≤ length rows = count_by-le-length (λ (r : Row). r.unit == unit) rows in
          omega (arith, now, before, more, short);
    }
