use Rattle.std.specs.Prelude.{codes}
use Rattle.settings.specs.declared.format.Format.TheVariants.{Text}
use Rattle.std.proofs.Common.{subst, arith}
use Rattle.problem_printouts.specs.Solving.{IsAnswer}
use Rattle.problem_printouts.specs.inner.Sofar.{AreAnswered}
use Rattle.problem_printouts.proofs.Answered.{few-met, told-ok}
use Rattle.problem_printouts.proofs.solving.solved.Goals as goal

pub of-requires-2 : goal.of-requires-2
of-requires-2 g c =
    let all = c.problems.ensures in
    let few = few-met (IsAnswer c.args.file.now c.args.settings.now Text) c.args.file.now.problems c.new-text.result.items c.push_all.new.text.items c.in_ok-met.met c.in_ok-met.ensures in
    omega (arith, all, few)

pub returns : goal.returns
returns g c =
    let is = IsAnswer c.args.file.now c.args.settings.now Text in
    let problems = c.args.file.now.problems in
    let text = c.push_all.new.text.items in
    let so = subst (λ old. AreAnswered is problems old text c.in_ok-met.met) c.new-text.ensures.items c.in_ok-met.ensures in
    told-ok (codes "# problems ") is problems text c.problems.result c.in_ok-met.met so c.problems.ensures c.of-2.result c.of-2.ensures.text c.of-2.ensures.met c.of-2.ensures.failed
