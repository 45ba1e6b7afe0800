use Rattle.std.proofs.Common.{◌∙◌, ap, pos, take_all, arith}
use Rattle.std.specs.Str.Parse.{digits_value}
use Rattle.std.proofs.lemmas.Int.{ints}
use Rattle.loop_lines.proofs.Short.{short_step}
use Rattle.loop_lines.proofs.number.short_value.Goals as goal

pub overflow_mul-value : goal.overflow_mul-value
overflow_mul-value c =
    let v = c.loop-digit.invariant in
    let step = short_step c.args.digits.now c.loop-digit.digit-index c.requires.digits c.requires.few c.loop-digit-test.true in
    omega (arith, ints, v, step.2, step.3)

pub overflow_sub-value : goal.overflow_sub-value
overflow_sub-value c =
    let v = c.loop-digit.invariant in
    let step = short_step c.args.digits.now c.loop-digit.digit-index c.requires.digits c.requires.few c.loop-digit-test.true in
    omega (arith, ints, v, step.0, step.1, step.2, step.3)

pub overflow_add-value : goal.overflow_add-value
overflow_add-value c =
    let v = c.loop-digit.invariant in
    let step = short_step c.args.digits.now c.loop-digit.digit-index c.requires.digits c.requires.few c.loop-digit-test.true in
    omega (arith, ints, v, step.0, step.1, step.2, step.3)

pub loop-digit-preserved : goal.loop-digit-preserved
loop-digit-preserved c =
    let v = c.loop-digit.invariant in
    let step = short_step c.args.digits.now c.loop-digit.digit-index c.requires.digits c.requires.few c.loop-digit-test.true in
    omega (arith, ints, v, step.0, step.1, step.2, step.3)

pub returns : goal.returns
returns c = c.loop-digit.invariant ∙ ap (λ ds. pos (digits_value 10 ds)) (take_all c.loop-digit.digit-index c.args.digits.now (omega arith))
