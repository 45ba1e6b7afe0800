-- What holds the interval of a problem.
use Rattle.std.specs.Prelude.{◌≡◌, ◌≢◌, ℕ, ◌-◌, ◌<◌, codes, List}
use Rattle.schedules.specs.Problems.{mii_of}
use Rattle.problems.specs.Problems.{ProblemData}
use Rattle.solutions.specs.Outcomes.{FailsBy}
use Rattle.solution_text.specs.Causes.{cause_word}
use Rattle.problem_reasons.specs.declared.hold.Hold.{Hold}
use Rattle.problem_reasons.specs.declared.hold.Hold.TheVariants.{Units, Recurrences, Both, Cycle, Failure}

abbrev pub hold_word : Hold → List ℕ
hold_word Units = codes "units"
hold_word Recurrences = codes "recurrences"
hold_word Both = codes "both"
hold_word Cycle = codes "one cycle"
hold_word (Failure cause) = cause_word cause

-- an interval that is the lower bound is held by the greater of the two bounds. Where these are equal it is held by both, or where they are 1
-- by being one cycle. An interval above it is held by the cause for which one cycle less gives no solution
abbrev pub IsHold : ProblemData → ℕ → Hold → Type 0
IsHold problem ii Units = (ii ≡ mii_of problem.scheduling) × (problem.scheduling.recurrences < problem.scheduling.resources)
IsHold problem ii Recurrences = (ii ≡ mii_of problem.scheduling) × (problem.scheduling.resources < problem.scheduling.recurrences)
IsHold problem ii Both = (ii ≡ mii_of problem.scheduling) × (problem.scheduling.resources ≡ problem.scheduling.recurrences) × (problem.scheduling.recurrences ≢ 1)
IsHold problem ii Cycle = (ii ≡ mii_of problem.scheduling) × (problem.scheduling.resources ≡ 1) × (problem.scheduling.recurrences ≡ 1)
IsHold problem ii (Failure cause) = (mii_of problem.scheduling < ii) × FailsBy problem (ii - 1) cause
