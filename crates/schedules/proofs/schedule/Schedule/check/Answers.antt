use Rattle.std.proofs.Common.{◌≡◌, ℕ, ◌≤◌, List, Option, Result, Ok, Err, sym, subst}
use Rattle.std.specs.Option.{MatchOption}
use Rattle.std.specs.Result.{MatchResult, result_ok}
use Rattle.schedules.specs.declared.breach.Breach.{Breach}
use Rattle.schedules.specs.Breaches.{IsFirstBreach}
use Rattle.schedules.specs.Problems.{ProblemData}
use Rattle.schedules.specs.Schedules.{ScheduleData, IsSchedule, as_listed}
use Rattle.schedules.proofs.lawfulness.Breaking.{breaches-break}
use Rattle.schedules.proofs.schedule.Schedule.check.Goals as goal

abbrev IsChecked : ProblemData → ℕ → List (ℕ × ℕ) → Option ScheduleData → Type 0
IsChecked problem ii places answer =
    MatchOption answer (IsSchedule (as_listed problem ii places) → ⊥) (λ s. IsSchedule s × (s ≡ as_listed problem ii places))

-- what is judged without the breach
checked : (problem : ProblemData) (ii : ℕ) (places : List (ℕ × ℕ)) (found : Result ScheduleData Breach) (answer : Option ScheduleData) → 1 ≤ ii → ii ≤ 16384
    → answer ≡ result_ok found → MatchResult found (λ s. IsSchedule s × (s ≡ as_listed problem ii places)) (IsFirstBreach problem ii places)
    → IsChecked problem ii places answer
checked problem ii places (Ok s) answer some few is found = subst (IsChecked problem ii places) (sym is) found
checked problem ii places (Err breach) answer some few is found =
    subst (IsChecked problem ii places) (sym is) (breaches-break problem ii places breach some few found)

pub returns : goal.returns
returns c = record {
  exact = checked c.args.problem.now c.args.ii c.args.places.now c.in_ok-judge.field-0 c.ok.result c.requires.some c.requires.limit c.ok.ensures.value
      c.in_ok-judge.ensures.exact;
}
