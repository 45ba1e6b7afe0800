use Rattle.std.proofs.Common.{◌≡◌, ℕ, ◌++◌, List, map, refl, ap, ◌∙◌}
use Rattle.std.proofs.lemmas.Result.{on_ok_weaker}
use Rattle.solutions.specs.declared.solving.tried.Failure.{Failure}
use Rattle.solutions.specs.Outcomes.{first_of}
use Rattle.writing.proofs.Beginnings.{two_pushed}
use Rattle.reason_lines.specs.Runs.{runs_text}
use Rattle.problem_reasons.specs.Tries.{why_text}
use Rattle.problem_reasons.proofs.tries.push_tries.Goals as goal

pub returns : goal.returns
returns c =
    let p = c.args.problem.now in
    let told = c.args.told.now in
    let failures : List Failure = told.failures.items in
    let old : List ℕ = c.args.text.now.items in
    let text : List Failure → List ℕ = λ (fs : List Failure). runs_text (first_of p) (map (why_text p.draft) fs) in
    let lines : c.push_failures.new.text.items ≡ old ++ text failures
    = c.in_ok-push_failures.ensures.ok ∙ ap (λ (fs : List Failure). old ++ text fs) c.as_slice.ensures.value in
    record {
      ok = on_ok_weaker c.push_end.result
          (λ end. (
            text failures ++ end.0,
            record {
              is_solved = c.requires.is_solved;
              failures = failures;
              are_failures = c.requires.are_failures;
              end = end.0;
              is_end = end.1;
              is_text = refl;
            },
            two_pushed old (text failures) end.0 c.push_failures.new.text.items c.push_end.new.text.items lines end.2,
          ))
          c.push_end.ensures.ok;
    }
