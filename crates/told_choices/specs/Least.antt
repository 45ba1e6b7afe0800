-- The least interval that is possible.
use Rattle.std.specs.Prelude.{ℕ, ◌==◌, max, Bool}
use Rattle.loop_schedules.specs.Problems.{ProblemData}

-- the interval is what the fullest set of units, which has a need, or the recurrences need, so that no lawful schedule has a shorter one
abbrev pub is_least_possible : ProblemData → ℕ → ℕ → Bool
is_least_possible problem need ii = max need problem.recurrences == ii
