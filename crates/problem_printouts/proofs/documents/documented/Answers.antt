use Rattle.std.proofs.Common.{[], subst, sym, arith}
use Rattle.settings.specs.declared.format.Format.TheVariants.{Json}
use Rattle.problem_tables.specs.Data.{ProblemData as TextProblem}
use Rattle.problem_printouts.specs.Solving.{IsAnswer}
use Rattle.problem_printouts.specs.Told.{Answer}
use Rattle.problem_printouts.specs.inner.Listed.{IsAfterComma}
use Rattle.problem_printouts.specs.inner.Sofar.{AreAnswered}
use Rattle.problem_printouts.proofs.Answered.{few-met}
use Rattle.problem_printouts.proofs.Commas.{document-ok}
use Rattle.problem_printouts.proofs.documents.documented.Goals as goal

pub answers_of-requires : goal.answers_of-requires
answers_of-requires g c =
    let is = λ (problem : TextProblem) (answer : Answer). IsAfterComma (IsAnswer c.args.file.now c.args.settings.now Json problem) answer in
    let all = c.problems.ensures in
    let few = few-met is c.args.file.now.problems c.new-list.result.items c.push_all.new.text.items c.in_ok-met.met c.in_ok-met.ensures in
    omega (arith, all, few)

pub returns : goal.returns
returns g c =
    let is = λ (problem : TextProblem) (answer : Answer). IsAfterComma (IsAnswer c.args.file.now c.args.settings.now Json problem) answer in
    let answered = subst (λ old. AreAnswered is c.args.file.now.problems old c.push_all.new.text.items c.in_ok-met.met) c.new-list.ensures.items c.in_ok-met.ensures in
    let so = subst (λ list. AreAnswered is c.args.file.now.problems [] list c.in_ok-met.met) (sym c.as_slice.ensures.value) answered in
    document-ok c.args.file.now c.args.settings.now c.as_slice.result.now c.problems.result c.in_ok-met.met so c.problems.ensures c.answers_of.result c.answers_of.ensures.text c.answers_of.ensures.met
    c.answers_of.ensures.failed
