-- The attempts at a loop's intervals, each made once, and what they give with other numbers of registers.
use Rattle.std.specs.Prelude.{ℕ, ◌+◌, ◌<◌, ◌≤◌, List, length, Option, Some, None}
use Rattle.std.specs.List.{slice_index_or}
use Rattle.ims.specs.declared.outcome.attempts.Try.{Try}
use Rattle.ims.specs.Attempts.{AnswersAttempt}
use Rattle.loop_schedules.specs.Problems.{ProblemData, budget_of, mii_of}
use Rattle.kernel.specs.declared.kernels.parts.Parts.{Parts}
use Rattle.loop_listings.specs.declared.causes.Cause.{Cause}
use Rattle.candidates.specs.Outcomes.{FailsBy, GivesKernel}
use Rattle.variants.specs.declared.found.finding.Finding.{Finding}
use Rattle.variants.specs.declared.found.finding.Finding.TheVariants as finding

-- the problem with this number of registers
abbrev pub with_registers : ℕ → ProblemData → ProblemData
with_registers registers problem = record {
  loop = problem.loop;
  graph = problem.graph;
  operations = problem.operations;
  registers = registers;
  resources = problem.resources;
  recurrences = problem.recurrences;
  ratio = problem.ratio;
  ceiling = problem.ceiling;
}

-- the attempts at the first intervals, from the least one on
abbrev pub AreTries : ProblemData → List Try → Type 0
AreTries problem tries = (above : ℕ) (d : Try) → above < length tries
    → AnswersAttempt problem (mii_of problem + above) (budget_of problem) (slice_index_or tries above d)

-- whether an interval gives a kernel
abbrev pub IsGiving : ProblemData → ℕ → Type 0
IsGiving problem ii = (kernel : Parts) × GivesKernel problem ii kernel

abbrev pub IsFailing : ProblemData → ℕ → Type 0
IsFailing problem ii = (cause : Cause) × FailsBy problem ii cause

-- the first `count` intervals, from the least one on, fail
abbrev pub AreFailing : ProblemData → ℕ → Type 0
AreFailing problem count = (above : ℕ) → above < count → IsFailing problem (mii_of problem + above)

-- the interval that is found is that of one of the first `count` attempts
abbrev pub IsCovered : ProblemData → Option ℕ → ℕ → Type 0
IsCovered problem None count = Unit {0}
IsCovered problem (Some ii) count = (mii_of problem ≤ ii) × (ii ≤ mii_of problem + problem.ceiling) × (ii < mii_of problem + count)

-- what an interval on a variant within the limits is
abbrev pub found_of : Option ℕ → Finding
found_of None = finding.Failed
found_of (Some ii) = finding.Met ii
