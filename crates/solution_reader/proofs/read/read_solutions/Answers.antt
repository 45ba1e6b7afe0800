use Rattle.std.proofs.Common.{subst, sym}
use Rattle.solution_reader.specs.Meaning.{solutions_in_text, AnswersFault, AnswersText}
use Rattle.problem_faults.specs.declared.refused_solutions.SolutionFault.{SolutionFault}
use Rattle.solution_reader.proofs.Lines.{too_long, not_long}
use Rattle.solution_reader.proofs.read.read_solutions.Goals as goal

pub returns-then-text-gt-MAX_PROBLEM_TEXT : goal.returns-then-text-gt-MAX_PROBLEM_TEXT
returns-then-text-gt-MAX_PROBLEM_TEXT c = record {
  exact = subst (λ (fault : SolutionFault). AnswersFault fault.what fault (solutions_in_text c.args.text.now)) (sym c.whole_fault.ensures) (too_long c.args.text.now c.if-text-gt-MAX_PROBLEM_TEXT.true);
}

pub returns : goal.returns
returns c = record {
  exact = subst (AnswersText c.read_all-file.result) (not_long c.args.text.now c.if-text-gt-MAX_PROBLEM_TEXT.false) c.read_all-file.ensures;
}
