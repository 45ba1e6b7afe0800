use Rattle.std.proofs.Common.{◌++◌, ◌∙◌, ap, refl, subst, true, false}
use Rattle.problems.specs.declared.draft.Draft.{Draft}
use Rattle.solutions.specs.Solutions.{IsLawfulSolution, SolutionData, listed}
use Rattle.solution_text.specs.Verdicts.{broken_line, broken_text, ok_line}
use Rattle.problem_printouts.proofs.judging.push_checked.Goals as goal

pub returns-in_ok-push_ok-in-Ok : goal.returns-in_ok-push_ok-in-Ok
returns-in_ok-push_ok-in-Ok c =
    let name = c.args.name.now in
    let s = listed c.args.problem.now c.args.ii c.args.places.now c.args.numbers.now in
    let exact = rw c.in-Ok.is at c.in_ok-solution.ensures.exact in
    record {
      answer = record { text = ok_line name s; met = true };
      is = record { is_lawful = subst IsLawfulSolution exact.1 exact.0; is_text = refl };
      is_text = c.in_ok-push_ok-in-Ok.ensures.ok ∙ ap (λ (t : SolutionData). c.args.text.now.items ++ ok_line name t) exact.1;
      same_met = refl;
    }

pub returns-in_ok-push_broken-in-Err : goal.returns-in_ok-push_broken-in-Err
returns-in_ok-push_broken-in-Err c =
    let name = c.args.name.now in
    let exact = rw c.in-Err.is at c.in_ok-solution.ensures.exact in
    record {
      answer = record { text = broken_line name (broken_text c.args.problem.now.draft c.args.ii c.in-Err.broken); met = false };
      is = record { broken = c.in-Err.broken; is_first = exact; is_text = refl };
      is_text = c.in_ok-push_broken-in-Err.ensures.ok
          ∙ ap (λ (draft : Draft). c.args.text.now.items ++ broken_line name (broken_text draft c.args.ii c.in-Err.broken)) c.draft.ensures.value;
      same_met = refl;
    }
