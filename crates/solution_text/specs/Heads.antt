-- The lines that the text of a problem begins with.
use Rattle.std.specs.Prelude.{ℕ, codes, List, ◌++◌, length}
use Rattle.schedules.specs.Problems.{mii_of}
use Rattle.problems.specs.Problems.{ProblemData}
use Rattle.writing.specs.Words.{told}

-- `# NAME ops O res R rec C mii M`, with a line feed: how many operations there are, the two lower bounds of the interval, and the
-- greater one
abbrev pub bounds_line : List ℕ → ProblemData → List ℕ
bounds_line name problem =
    (((((codes "# " ++ name) ++ told (codes " ops ") (length problem.scheduling.operations)) ++ told (codes " res ") problem.scheduling.resources)
    ++ told (codes " rec ") problem.scheduling.recurrences) ++ told (codes " mii ") (mii_of problem.scheduling)) ++ codes "\n"

-- this line, and other lines on the problem
abbrev pub head_text : List ℕ → List ℕ → ProblemData → List ℕ
head_text name notes problem = bounds_line name problem ++ notes
