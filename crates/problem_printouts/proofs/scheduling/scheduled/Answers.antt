use Rattle.std.proofs.Common.{[], append-nil, arith, refl, subst, sym, ◌∙◌}
use Rattle.problem_printouts.specs.Scheduling.{IsScheduledAnswer}
use Rattle.problem_printouts.specs.inner.Sofar.{AreAnswered}
use Rattle.problem_printouts.proofs.Answered.{few-met, told-all}
use Rattle.problem_printouts.proofs.scheduling.scheduled.Goals as goal

pub of_all-requires : goal.of_all-requires
of_all-requires c =
    let all = c.problems.ensures in
    let few = few-met (IsScheduledAnswer c.args.file.now c.args.settings.now) c.args.file.now.problems c.new-text.result.items c.push_all.new.text.items c.in_ok-met.met c.in_ok-met.ensures in
    omega (arith, all, few)

pub returns : goal.returns
returns c =
    let is = IsScheduledAnswer c.args.file.now c.args.settings.now in
    let problems = c.args.file.now.problems in
    let text = c.push_all.new.text.items in
    let so = subst (λ old. AreAnswered is problems old text c.in_ok-met.met) c.new-text.ensures.items c.in_ok-met.ensures in
    told-all (λ answers. []) is problems text [] c.problems.result c.in_ok-met.met c.of_all.result so c.problems.ensures refl (c.of_all.ensures.text ∙ sym (append-nil text)) c.of_all.ensures.met c.of_all.ensures.failed
