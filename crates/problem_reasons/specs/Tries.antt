-- The lines of the intervals that are tried.
use Rattle.std.specs.Prelude.{◌≡◌, ℕ, ◌<◌, ◌≤◌, true, codes, List, [], ◌++◌, map}
use Rattle.std.specs.List.{AllZip, range_with_len}
use Rattle.edges.specs.Schedules.{IsLawfulSchedule}
use Rattle.schedules.specs.Schedules.{stages_of}
use Rattle.problems.specs.declared.draft.Draft.{Draft}
use Rattle.problems.specs.Problems.{ProblemData, IsProblem}
use Rattle.solutions.specs.declared.solving.outcome.Outcome.{Outcome}
use Rattle.solutions.specs.declared.solving.outcome.Outcome.TheVariants.{Met, Failed}
use Rattle.solutions.specs.declared.solving.tried.Failure.{Failure}
use Rattle.solutions.specs.Failures.{FailsFor}
use Rattle.solutions.specs.Outcomes.{IsSolved, first_of}
use Rattle.solutions.specs.Solutions.{schedule_of}
use Rattle.solutions.specs.Told.{failures_of}
use Rattle.solution_text.specs.Texts.{cause_text}
use Rattle.reason_lines.specs.Least.{is_least_possible, least_line}
use Rattle.reason_lines.specs.Runs.{runs_text}
use Rattle.unit_sets.specs.declared.fullest.UnitSet.{UnitSet}
use Rattle.unit_sets.specs.Fullest.{IsFullest}
use Rattle.writing.specs.Words.{told}
use Rattle.problem_reasons.specs.declared.hold.Hold.{Hold}
use Rattle.problem_reasons.specs.Holds.{IsHold, hold_word}

-- ` CAUSE`, with its culprits
abbrev pub why_text : Draft → Failure → List ℕ
why_text draft failure = codes " " ++ cause_text draft failure.cause failure.culprit

-- `try I solution stages S`, with a line feed
abbrev pub met_line : ℕ → ℕ → List ℕ
met_line ii stages = (told (codes "try ") ii ++ told (codes " solution stages ") stages) ++ codes "\n"

-- `held by WORD`, with a line feed
abbrev pub hold_line : Hold → List ℕ
hold_line hold = (codes "held by " ++ hold_word hold) ++ codes "\n"

-- where an interval is what the fullest set of units or the recurrences need, no lawful schedule of the problem has a shorter one
abbrev pub LeastIsLeast : Type 0
LeastIsLeast = (problem : ProblemData) (set : UnitSet) (ii shorter : ℕ) (times choices : List ℕ) → IsProblem problem → IsFullest problem.scheduling.operations set
    → is_least_possible set.need problem.scheduling.recurrences ii ≡ true → 0 < shorter
    → IsLawfulSchedule shorter problem.scheduling.operations problem.scheduling.graph.edges times choices → ii ≤ shorter

-- the interval of the solution, what holds it, and whether no shorter one is possible, where there is one. The fullest set of units has
-- a need
abbrev pub IsEnd : ProblemData → ℕ → Outcome → List ℕ → Type 0
IsEnd problem need (Met s) text = (hold : Hold) × IsHold problem s.ii hold
    × (text ≡ (met_line s.ii (stages_of (schedule_of s)) ++ hold_line hold) ++ least_line (is_least_possible need problem.scheduling.recurrences s.ii))
IsEnd problem need (Failed cause) text = text ≡ []

-- what a problem comes to, with the cause and the culprits of each interval, from the least one on, that gives no solution: a line for
-- neighbouring ones of which the same is told
pub record AreTries (problem : ProblemData) (need : ℕ) (outcome : Outcome) (text : List ℕ) : Type 0 where
  pub is_solved : IsSolved problem outcome
  pub failures : List Failure
  pub are_failures : AllZip (FailsFor problem) (range_with_len (first_of problem) (failures_of problem outcome)) failures
  pub end : List ℕ
  pub is_end : IsEnd problem need outcome end
  pub is_text : text ≡ runs_text (first_of problem) (map (why_text problem.draft) failures) ++ end
