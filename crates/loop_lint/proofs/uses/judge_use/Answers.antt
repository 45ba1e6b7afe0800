use Rattle.std.proofs.Common.{arith, rules}
use Rattle.std.proofs.lemmas.Grind.{common_steps}
use Rattle.loop_lines.specs.Near.{IsNear}
use Rattle.loop_lint.proofs.Tables.{bare_there}
use Rattle.loop_lint.proofs.uses.judge_use.Goals as goal

pub returns-after-is_now-clause-uncovered : goal.returns-after-is_now-clause-uncovered
returns-after-is_now-clause-uncovered c = λ lines is.
    let near : IsNear c.in-Some-At.distance = search rules in
    let bare = bare_there lines c.args.block.now c.in-Some-At.name.now c.in-Some-At.distance is near in
    grind (arith, common_steps, bare)
