-- What is chosen for a loop: its least interval that gives a kernel.
use Rattle.std.specs.Prelude.{◌≡◌, ℕ, ◌+◌}
use Rattle.settings.specs.Searches.{IsLeastGiven, IsNoneGiven, NoneGiven}
use Rattle.loop_schedules.specs.Problems.{ProblemData, IsProblem, mii_of}
use Rattle.kernel.specs.declared.kernels.parts.Parts.{Parts}
use Rattle.loop_listings.specs.declared.causes.Cause.{Cause}
use Rattle.loop_listings.specs.declared.choices.Choice.{Choice}
use Rattle.loop_listings.specs.declared.choices.Choice.TheVariants.{Met, Failed}
use Rattle.candidates.specs.Outcomes.{GivesKernel, FailsBy}

-- the last interval that is tried
abbrev pub last_of : ProblemData → ℕ
last_of problem = mii_of problem + problem.ceiling

-- no interval from the least one on and before this one gives a kernel
abbrev pub NoneBefore : ProblemData → ℕ → Type 0
NoneBefore problem end = NoneGiven (GivesKernel problem) (mii_of problem) end

-- the least interval that gives a kernel, with that kernel
abbrev pub IsLeastMet : ProblemData → ℕ → Parts → Type 0
IsLeastMet problem ii kernel = IsLeastGiven (GivesKernel problem) (mii_of problem) (last_of problem) ii kernel

-- none gives one; the cause is that of the last
abbrev pub IsUnmet : ProblemData → Cause → Type 0
IsUnmet problem cause = IsNoneGiven (GivesKernel problem) (FailsBy problem) (mii_of problem) (last_of problem) cause

abbrev pub IsChoice : ProblemData → Choice → Type 0
IsChoice problem (Met ii kernel) = IsLeastMet problem ii kernel
IsChoice problem (Failed cause) = IsUnmet problem cause

-- a loop has one choice
abbrev pub OneChoice : Type 0
OneChoice = (problem : ProblemData) (one other : Choice) → IsProblem problem → IsChoice problem one → IsChoice problem other → one ≡ other
