use Rattle.problem_printouts.proofs.Answering.{check_answered}
use Rattle.problem_printouts.proofs.judging.check_printout.Goals as goal

pub returns : goal.returns
returns c = record {
  exact = check_answered c.args.problems.now c.args.solutions.now c.in_ok-file.file c.in_ok-list.list c.checked.result c.in_ok-file.ensures.exact c.in_ok-list.ensures.exact c.checked.ensures;
}
