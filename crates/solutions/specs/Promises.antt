-- Laws of solutions.
use Rattle.std.specs.Prelude.{◌≡◌, ℕ, ◌<◌, ◌≤◌}
use Rattle.std.specs.List.{All}
use Rattle.instances.specs.Runs.{IsRun}
use Rattle.problems.specs.Problems.{ProblemData, IsProblem}
use Rattle.registers.specs.declared.lifetime.Lifetime.{Lifetime}
use Rattle.registers.specs.Crowds.{instances_in}
use Rattle.solutions.specs.declared.solving.outcome.Outcome.{Outcome}
use Rattle.solutions.specs.Copies.{copies_of, unroll_of}
use Rattle.solutions.specs.Names.{AreEnough, AreTooFew, LivesUnallotted}
use Rattle.solutions.specs.Outcomes.{Gives, IsSolved}
use Rattle.solutions.specs.Runs.{run_of}
use Rattle.solutions.specs.Solutions.{SolutionData, IsLawfulSolution, lives_of_solution}

-- what an interval gives is lawful
abbrev pub GivesIsLawful : Type 0
GivesIsLawful = (problem : ProblemData) (ii : ℕ) (s : SolutionData) → IsProblem problem → Gives problem ii s → IsLawfulSolution s

-- in the run of a lawful solution no two instances stand in one place in one cycle
abbrev pub LawfulSolutionsAreRuns : Type 0
LawfulSolutionsAreRuns = (s : SolutionData) → IsLawfulSolution s → IsRun (run_of s)

-- a problem has one outcome
abbrev pub OneOutcome : Type 0
OneOutcome = (problem : ProblemData) (one other : Outcome) → IsProblem problem → IsSolved problem one → IsSolved problem other → one ≡ other

-- in a lawful solution the interval has a cycle, and each value lives to one no earlier than its first, as the next two laws ask
abbrev pub LivesAreInOrder : Type 0
LivesAreInOrder = (s : SolutionData) → IsLawfulSolution s → (1 ≤ s.ii) × All (λ (life : Lifetime). life.first ≤ life.last) (lives_of_solution s)

-- the copies of a value are the most of its instances that live in one cycle: in no row live more, and in some row live that many
abbrev pub CopiesAreCrowds : Type 0
CopiesAreCrowds = (ii : ℕ) (life : Lifetime) → 1 ≤ ii → life.first ≤ life.last
    → ((row : ℕ) → row < ii → instances_in ii row life ≤ copies_of ii life)
    × ((row : ℕ) × (row < ii) × (instances_in ii row life ≡ copies_of ii life))

-- as many names as a value has copies, or more, are enough for it, and fewer are too few
abbrev pub CopiesAreEnough : Type 0
CopiesAreEnough = (ii names : ℕ) (life : Lifetime) → 1 ≤ ii → life.first ≤ life.last
    → (copies_of ii life ≤ names → AreEnough ii life names)
    × (1 ≤ names → names < copies_of ii life → AreTooFew ii life names)

-- where the body of a loop is repeated `unroll_of` times, or more often, the names are enough for each value of an unallotted file, and
-- where it is repeated less often, they are too few for one of these
abbrev pub UnrollIsEnough : Type 0
UnrollIsEnough = (s : SolutionData) (times : ℕ) → IsLawfulSolution s
    → (1 ≤ unroll_of s)
    × (unroll_of s ≤ times → (value : ℕ) (life : Lifetime) → LivesUnallotted s value life → AreEnough s.ii life times)
    × (1 ≤ times → times < unroll_of s → (value : ℕ) × (life : Lifetime) × LivesUnallotted s value life × AreTooFew s.ii life times)
