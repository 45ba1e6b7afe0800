use Rattle.std.proofs.Common.{◌++◌, ◌∙◌, ap, refl, false}
use Rattle.problems.specs.declared.draft.Draft.{Draft}
use Rattle.solution_text.specs.Verdicts.{broken_line, missing_text}
use Rattle.problem_printouts.proofs.judging.push_lack.Goals as goal

pub returns : goal.returns
returns c =
    let name = c.args.name.now in
    let what = missing_text c.args.problem.now.draft c.args.missing in
    record {
      answer = record { text = broken_line name what; met = false };
      is = record { is_text = refl; not_met = refl };
      is_text = c.in_ok-push_missing.ensures.ok ∙ ap (λ (draft : Draft). c.args.text.now.items ++ broken_line name (missing_text draft c.args.missing)) c.draft.ensures.value;
      same_met = refl;
    }
