use Rattle.std.proofs.Common.{◌<◌, ◌∙◌, length, arith}
use Rattle.problem_printouts.proofs.Named.{numbers-more}
use Rattle.problem_printouts.proofs.known.numbers_of.Goals as goal

pub loop-number-preserved : goal.loop-number-preserved
loop-number-preserved c =
    let file = c.args.file.now in
    let test = c.loop-number-test.true in
    let all = c.problems-number-end.ensures in
    let low : c.loop-number.number < length file.problems = omega (arith, test, all) in
    numbers-more file c.loop-number.numbers c.add_name.new.numbers c.loop-number.number c.as_bytes.result.now low (c.as_bytes.ensures.value ∙ c.as_str.ensures.value ∙ c.name.ensures)
    c.loop-number.invariant c.in_ok-add_name.ensures
