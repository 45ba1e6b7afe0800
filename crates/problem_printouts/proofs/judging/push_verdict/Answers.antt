use Rattle.std.proofs.Common.{subst}
use Rattle.settings.specs.Settings.{SettingsData}
use Rattle.problem_reader.specs.Files.{problem_at}
use Rattle.problem_printouts.specs.Judging.{IsJudged, solution_named}
use Rattle.problem_printouts.specs.Problems.{IsProblemIn}
use Rattle.problem_printouts.proofs.Answered.{if-ok}
use Rattle.problem_printouts.proofs.judging.push_verdict.Goals as goal

pub returns : goal.returns
returns c =
    let file = c.args.file.now in
    let list = c.args.list.now in
    let problem = problem_at file c.args.number in
    let made = c.in_ok-problem.problem in
    if-ok c.push_judged.result c.push_judged.ensures (λ met one. record {
      answer = one.answer;
      is = record {
        made = made;
        is_made = subst (λ (s : SettingsData). IsProblemIn file s.ratio s.ceiling problem made) c.settings.ensures c.in_ok-problem.ensures;
        is_judged = subst (λ name. IsJudged made name (solution_named list name) one.answer) c.name.ensures one.is;
      };
      is_text = one.is_text;
      same_met = one.same_met;
    })
