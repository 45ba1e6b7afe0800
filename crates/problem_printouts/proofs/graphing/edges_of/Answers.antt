use Rattle.std.proofs.Common.{arith, subst}
use Rattle.problem_graphs.specs.Edges.{IsEdgesText}
use Rattle.problem_printouts.specs.Graphing.{IsGraphAnswer}
use Rattle.problem_printouts.specs.inner.Sofar.{AreAnswered}
use Rattle.problem_printouts.proofs.Answered.{few-met, counted-ok}
use Rattle.problem_printouts.proofs.graphing.edges_of.Goals as goal

pub of_count-requires : goal.of_count-requires
of_count-requires c =
    let all = c.problems.ensures in
    let few = few-met (IsGraphAnswer IsEdgesText c.args.file.now) c.args.file.now.problems c.new-text.result.items c.push_all.new.text.items c.in_ok-met.met c.in_ok-met.ensures in
    omega (arith, all, few)

pub returns : goal.returns
returns c =
    let is = IsGraphAnswer IsEdgesText c.args.file.now in
    let problems = c.args.file.now.problems in
    let text = c.push_all.new.text.items in
    let so = subst (λ old. AreAnswered is problems old text c.in_ok-met.met) c.new-text.ensures.items c.in_ok-met.ensures in
    counted-ok is problems text c.problems.result c.in_ok-met.met so c.problems.ensures c.of_count.result c.of_count.ensures.text c.of_count.ensures.met c.of_count.ensures.failed
