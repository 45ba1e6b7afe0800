use Rattle.std.proofs.Common.{◌<◌, ◌∙◌, sym, length, arith}
use Rattle.problem_printouts.proofs.Strangers.{past-found, past-more}
use Rattle.problem_printouts.proofs.unknown.first_unknown.Goals as goal

pub returns-in-Some : goal.returns-in-Some
returns-in-Some c =
    let test = c.loop-number-test.true in
    let all = c.solutions-number-end.ensures in
    let low : c.loop-number.number < length c.args.list.now = omega (arith, test, all) in
    past-found c.args.file.now c.args.list.now c.loop-number.number c.in-Some.fault low c.loop-number.invariant (sym c.in-Some.is ∙ c.in_ok-fault.ensures)

pub loop-number-preserved : goal.loop-number-preserved
loop-number-preserved c =
    let test = c.loop-number-test.true in
    let all = c.solutions-number-end.ensures in
    let low : c.loop-number.number < length c.args.list.now = omega (arith, test, all) in
    past-more c.args.file.now c.args.list.now c.loop-number.number low c.loop-number.invariant (sym c.in_default.is ∙ c.in_ok-fault.ensures)
