use Rattle.std.proofs.Common.{◌∙◌, refl, subst, true}
use Rattle.settings.specs.Settings.{SettingsData}
use Rattle.problem_graphs.specs.Dot.{IsDotText}
use Rattle.problem_reader.specs.Files.{problem_at}
use Rattle.problem_printouts.specs.Problems.{IsProblemIn}
use Rattle.problem_printouts.proofs.graphing.push_dot_of.Goals as goal

pub returns : goal.returns
returns c =
    let file = c.args.file.now in
    let problem = problem_at file c.args.number in
    let made = c.in_ok-problem.problem in
    let part = c.in_ok-push_dot.ensures.ok in
    record {
      answer = record { text = part.0; met = true };
      is = record {
        made = made;
        is_made = subst (λ (s : SettingsData). IsProblemIn file s.ratio s.ceiling problem made) c.settings.ensures c.in_ok-problem.ensures;
        is_text = subst (λ name. IsDotText name made part.0) (c.as_str.ensures.value ∙ c.name.ensures) part.1;
        is_met = refl;
      };
      is_text = part.2;
      same_met = refl;
    }
