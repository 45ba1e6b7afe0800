use Rattle.std.proofs.Common.{◌≡◌, ◌<◌, true, arith, rules, get_or, length}
use Rattle.std.proofs.lemmas.Bool.Decides.{nat_tests}
use Rattle.std.specs.Char.{is_ascii_digit}
use Rattle.loop_lines.proofs.Numbers.{digits_step, value_step, number_end}
use Rattle.loop_lines.proofs.number.number_of.Goals as goal

pub loop-rest-preserved : goal.loop-rest-preserved
loop-rest-preserved c =
    let digit : is_ascii_digit (get_or c.loop-rest.rest.now 0 0) ≡ true = search rules in
    (digits_step c.args.word.now c.loop-rest.rest.now (omega arith) digit c.loop-rest.invariant.0, value_step c.args.word.now c.loop-rest.rest.now c.loop-rest.value _ (omega arith) digit (cc) c.loop-rest.invariant.1, omega arith)

pub returns : goal.returns
returns c =
    let some : 0 < length c.args.word.now = grind (arith, nat_tests) in
    number_end c.args.word.now c.loop-rest.rest.now c.loop-rest.value some (omega arith) c.loop-rest.invariant.2 c.loop-rest.invariant.0 c.loop-rest.invariant.1
