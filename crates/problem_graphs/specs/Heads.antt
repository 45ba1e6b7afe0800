-- The line of a problem with its bounds.
use Rattle.std.specs.Prelude.{ℕ, codes, List, ◌++◌, length}
use Rattle.schedules.specs.Problems.{ProblemData as SchedulingData, mii_of}
use Rattle.problems.specs.Problems.{ProblemData}
use Rattle.writing.specs.Words.{told}

-- ` res R rec C mii M`: the two lower bounds of the interval, and the greater one
abbrev pub bounds_told : SchedulingData → List ℕ
bounds_told scheduling =
    (told (codes " res ") scheduling.resources ++ told (codes " rec ") scheduling.recurrences) ++ told (codes " mii ") (mii_of scheduling)

-- `problem NAME ops O res R rec C mii M`, with a line feed: how many operations there are, and the bounds
abbrev pub problem_line : List ℕ → ProblemData → List ℕ
problem_line name problem =
    (((codes "problem " ++ name) ++ told (codes " ops ") (length problem.scheduling.operations)) ++ bounds_told problem.scheduling) ++ codes "\n"
