-- How many instances of values live at once.
use Rattle.std.specs.Prelude.{ℕ, ◌+◌, ◌-◌, ◌/◌, max, Bool, true, false, List, length, map, filter, Option, Some, None, slice_get}
use Rattle.std.specs.List.{range_with_len, zip}
use Rattle.problems.specs.declared.draft.File.{File}
use Rattle.problems.specs.declared.draft.File.TheVariants.{Rotating, Unallotted}
use Rattle.registers.specs.declared.lifetime.Lifetime.{Lifetime}
use Rattle.registers.specs.Crowds.{crowd_in}
use Rattle.registers.specs.Values.{greatest_of}
use Rattle.solutions.specs.Files.{in_file}
use Rattle.solutions.specs.Solutions.{SolutionData, files_of, lives_of_solution}

-- the cycles in which a value lives, over the interval, rounded up
abbrev pub copies_of : ℕ → Lifetime → ℕ
copies_of ii life = ((life.last + 1 - life.first) + (ii - 1)) / ii

-- the most instances of a file's values that live in one cycle: the most of the cycles of an interval
abbrev pub max_live_of : SolutionData → ℕ → ℕ
max_live_of s file =
    let lives = in_file (files_of s.problem.draft) file (lives_of_solution s) in
    greatest_of (map (λ row. crowd_in s.ii row lives (length lives)) (range_with_len 0 s.ii))

abbrev pub is_unallotted : Option File → Bool
is_unallotted None = false
is_unallotted (Some (Rotating registers)) = false
is_unallotted (Some Unallotted) = true

-- when the values of unallotted files live, where each value's file is told
abbrev pub unallotted_in : List File → List ℕ → List Lifetime → List Lifetime
unallotted_in kinds files lives =
    map (λ (p : ℕ × Lifetime). p.1) (filter (λ (p : ℕ × Lifetime). is_unallotted (slice_get kinds p.0)) (zip files lives))

-- how often the body of a loop is repeated so that each instance that lives has a name of its own: the most copies of a value of an
-- unallotted file, and 1 where there is none
abbrev pub unroll_of : SolutionData → ℕ
unroll_of s = max 1 (greatest_of (map (copies_of s.ii) (unallotted_in s.problem.draft.files.items (files_of s.problem.draft) (lives_of_solution s))))
