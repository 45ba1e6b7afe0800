use Rattle.std.proofs.Common.{◌≡◌, ◌<◌, ◌≤◌, length, ap, ◌∙◌, arith}
use Rattle.unit_bound.specs.Units.{use_of}
use Rattle.outcome_text.proofs.Uses.{use-more}
use Rattle.outcome_text.proofs.units.use_of.Goals as goal

pub loop-number-preserved : goal.loop-number-preserved
loop-number-preserved c =
    let operations = c.args.operations.now in
    let choices = c.args.choices.now in
    let n = c.loop-number.number in
    let each : length choices ≡ length operations = c.requires.each in
    let within : n < length operations = omega arith in
    let there : n < length choices = omega arith in
    let more : c.rows_with-uses.result ≤ length c.rows_at.result.now = c.rows_with-uses.ensures.few in
    let few : length c.rows_at.result.now ≤ 16 = c.rows_at.ensures.few in
    record {
      uses = use-more operations choices n c.args.unit c.loop-number.uses c.rows_with-uses.result within there c.loop-number.invariant.uses
          (c.rows_with-uses.ensures.value ∙ ap (λ rows. use_of rows c.args.unit) c.rows_at.ensures.value);
      few = omega arith;
    }
