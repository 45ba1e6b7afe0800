use Rattle.std.proofs.Common.{◌≡◌, ℕ, ◌-◌, ◌++◌, List, [], refl, sym, ap, ap₂, ◌∙◌, subst}
use Rattle.std.specs.List.{AllZip, range_with_len}
use Rattle.std.proofs.lemmas.List.{append-nil}
use Rattle.std.proofs.lemmas.Result.{on_ok_weaker}
use Rattle.schedules.specs.Problems.{ProblemData as SchedulingData}
use Rattle.schedules.specs.Schedules.{stages_of}
use Rattle.reason_lines.specs.Least.{is_least_possible, least_line}
use Rattle.solutions.specs.declared.solving.outcome.Outcome.{Outcome}
use Rattle.solutions.specs.declared.solving.tried.Failure.{Failure}
use Rattle.solutions.specs.Failures.{FailsFor}
use Rattle.solutions.specs.Outcomes.{IsSolved, first_of}
use Rattle.solutions.specs.Solutions.{SolutionData, schedule_of}
use Rattle.solutions.specs.Told.{failures_of}
use Rattle.problem_reasons.specs.declared.hold.Hold.{Hold}
use Rattle.problem_reasons.specs.Holds.{IsHold}
use Rattle.problem_reasons.specs.Tries.{IsEnd, hold_line, met_line}
use Rattle.problem_reasons.proofs.tries.push_end.Goals as goal

pub returns-in-Met : goal.returns-in-Met
returns-in-Met c =
    let p = c.args.problem.now in
    let need = c.args.need in
    let old : List ℕ = c.args.text.now.items in
    let failures : List Failure = c.args.told.now.failures.items in
    let s : SolutionData = c.in-Met.solution in
    let hold : Hold = c.hold_of-hold.result in
    let lines : ℕ → ℕ → List ℕ = λ ii stages. (met_line ii stages ++ hold_line hold) ++ least_line (is_least_possible need p.scheduling.recurrences ii) in
    let end : List ℕ = lines s.ii (stages_of (schedule_of s)) in
    let solved = subst (IsSolved p) c.in-Met.is c.requires.is_solved in
    let are : AllZip (FailsFor p) (range_with_len (first_of p) (s.ii - first_of p)) failures
    = subst (λ (o : Outcome). AllZip (FailsFor p) (range_with_len (first_of p) (failures_of p o)) failures) c.in-Met.is c.requires.are_failures in
    let held : IsHold p s.ii hold
    = c.hold_of-hold.ensures s.ii solved.from_first (subst (AllZip (FailsFor p) (range_with_len (first_of p) (s.ii - first_of p))) (sym c.as_slice.ensures.value) are) in
    let recurrences : c.recurrences.result ≡ p.scheduling.recurrences
    = c.recurrences.ensures.value ∙ ap (λ (x : SchedulingData). x.recurrences) c.scheduling.ensures.value in
    let least : c.is_least_possible-least.result ≡ is_least_possible need p.scheduling.recurrences c.ii-ii.result
    = c.is_least_possible-least.ensures ∙ ap (λ (n : ℕ). is_least_possible need n c.ii-ii.result) recurrences in
    record {
      ok = on_ok_weaker c.push_met.result
          (λ written. (
            end,
            subst (λ (o : Outcome). IsEnd p need o end) (sym c.in-Met.is) (hold, held, refl),
            written ∙ ap (λ b. old ++ ((met_line c.ii-ii.result c.stages.result ++ hold_line hold) ++ least_line b)) least
                ∙ ap₂ (λ (ii stages : ℕ). old ++ lines ii stages) c.ii-ii.ensures.value c.stages.ensures.value,
          ))
          c.push_met.ensures.ok;
    }

pub returns-in-Failed : goal.returns-in-Failed
returns-in-Failed c = record {
  ok = ([], subst (λ (o : Outcome). IsEnd c.args.problem.now c.args.need o []) (sym c.in-Failed.is) refl, sym (append-nil c.args.text.now.items));
}
