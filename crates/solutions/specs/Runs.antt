-- The run of a solution.
use Rattle.std.specs.Prelude.{ℕ, map, Option, Some, None, slice_get}
use Rattle.std.specs.List.{zip}
use Rattle.instances.specs.Runs.{Home, Rotates, RunData, IsRun}
use Rattle.instances.specs.Runs as runs
use Rattle.problems.specs.declared.draft.File.{File}
use Rattle.problems.specs.declared.draft.File.TheVariants.{Rotating, Unallotted}
use Rattle.problems.specs.Drafts.{plain_values}
use Rattle.solutions.specs.declared.solving.outcome.Outcome.{Outcome}
use Rattle.solutions.specs.declared.solving.outcome.Outcome.TheVariants.{Met, Failed}
use Rattle.solutions.specs.Solutions.{SolutionData, IsLawfulSolution, end_of, files_of}

-- where the instances of a value stand
abbrev pub home_in : Option File → ℕ → ℕ → Home
home_in None file number = runs.Unallotted
home_in (Some (Rotating registers)) file number = Rotates file registers number
home_in (Some Unallotted) file number = runs.Unallotted

abbrev pub run_of : SolutionData → RunData
run_of s = record {
  ii = s.ii;
  times = s.times;
  end = end_of s;
  values = plain_values s.problem.draft;
  reads = s.problem.draft.reads.items;
  homes = map (λ (p : ℕ × ℕ). home_in (slice_get s.problem.draft.files.items p.0) p.0 p.1) (zip (files_of s.problem.draft) s.numbers);
}

-- a solution that is found is lawful, and its registers hold the right instances
abbrev pub IsRightOutcome : Outcome → Type 0
IsRightOutcome (Met s) = IsLawfulSolution s × IsRun (run_of s)
IsRightOutcome (Failed cause) = Unit {0}
