-- Solutions of scheduling problems.
use Rattle.std.specs.Prelude.{◌≡◌, ℕ, ◌+◌, ◌*◌, ◌<◌, max, List, length, map, Option, Some, None, slice_get, slice_index}
use Rattle.std.specs.List.{zip}
use Rattle.schedules.specs.Schedules.{ScheduleData, IsSchedule, stages_of}
use Rattle.problems.specs.declared.draft.Draft.{Draft}
use Rattle.problems.specs.declared.draft.File.{File}
use Rattle.problems.specs.declared.draft.File.TheVariants.{Rotating, Unallotted}
use Rattle.problems.specs.declared.draft.Value.{Value}
use Rattle.problems.specs.Drafts.{plain_values}
use Rattle.problems.specs.Problems.{ProblemData, IsProblem}
use Rattle.registers.specs.declared.lifetime.Lifetime.{Lifetime}
use Rattle.registers.specs.Allotments.{IsLawfulAllotment, AreLeast}
use Rattle.registers.specs.Values.{greatest_of, landing_of, lives_of}
use Rattle.solutions.specs.Files.{in_file}

-- an interval, each operation's issue time, in cycles, and alternative, and the number of each value: of one in a rotating file that of
-- the register of its instance 0, and 0 of one in an unallotted file
pub record SolutionData : Type 0 where
  pub problem : ProblemData
  pub ii : ℕ
  pub times : List ℕ
  pub choices : List ℕ
  pub numbers : List ℕ

abbrev pub schedule_of : SolutionData → ScheduleData
schedule_of s = record { problem = s.problem.scheduling; ii = s.ii; times = s.times; choices = s.choices }

-- the file of each value
abbrev pub files_of : Draft → List ℕ
files_of draft = map (λ (v : Value). v.file) draft.values.items

-- when values live

-- the cycle in which the last operation of iteration 0 has landed, and that in which the last value has
abbrev pub last_operation : ScheduleData → ℕ
last_operation schedule = greatest_of (map (λ (p : ℕ × ℕ). p.0 + p.1) (zip schedule.times schedule.problem.graph.latencies))

abbrev pub last_value : Draft → List ℕ → ℕ
last_value draft times = greatest_of (map (landing_of times) (plain_values draft))

-- the cycle up to which values that are live at the end last: the end of the last stage, or the last landing where that is later
abbrev pub end_at : Draft → ScheduleData → ℕ
end_at draft schedule = max (schedule.ii * stages_of schedule) (max (last_operation schedule) (last_value draft schedule.times))

-- when each value lives in iteration 0, in cycles
unfoldable pub lives_at : Draft → ScheduleData → List Lifetime
lives_at draft schedule = lives_of schedule.ii schedule.times (end_at draft schedule) (plain_values draft) draft.reads.items

abbrev pub end_of : SolutionData → ℕ
end_of s = end_at s.problem.draft (schedule_of s)

abbrev pub lives_of_solution : SolutionData → List Lifetime
lives_of_solution s = lives_at s.problem.draft (schedule_of s)

-- numbers

-- one for each value, which is 0 in an unallotted file
pub record AreNumbers (draft : Draft) (numbers : List ℕ) : Type 0 where
  pub each : length numbers ≡ length draft.values.items
  pub zero : (value : ℕ) → value < length draft.values.items → slice_get draft.files.items (slice_index (files_of draft) value) ≡ Some Unallotted
      → slice_index numbers value ≡ 0

-- the number is that of a register of its rotating file, or 0 in an unallotted one
abbrev pub IsNumberIn : Option File → ℕ → Type 0
IsNumberIn None number = ⊥
IsNumberIn (Some (Rotating registers)) number = number < registers
IsNumberIn (Some Unallotted) number = number ≡ 0

abbrev pub IsRightNumber : Draft → List ℕ → ℕ → Type 0
IsRightNumber draft numbers value = IsNumberIn (slice_get draft.files.items (slice_index (files_of draft) value)) (slice_index numbers value)

-- a schedule of the problem, and in each rotating file no two different instances of values stand in one register in one cycle
pub record IsLawfulSolution (s : SolutionData) : Type 0 where
  pub is_problem : IsProblem s.problem
  pub is_schedule : IsSchedule (schedule_of s)
  pub numbers : AreNumbers s.problem.draft s.numbers
  pub files : (file registers : ℕ) → slice_get s.problem.draft.files.items file ≡ Some (Rotating registers)
      → IsLawfulAllotment s.ii registers (in_file (files_of s.problem.draft) file (lives_of_solution s)) (in_file (files_of s.problem.draft) file s.numbers)

-- in each rotating file each number is the least one after those before it
pub record HasLeastNumbers (s : SolutionData) : Type 0 where
  pub numbers : AreNumbers s.problem.draft s.numbers
  pub files : (file registers : ℕ) → slice_get s.problem.draft.files.items file ≡ Some (Rotating registers)
      → AreLeast s.ii registers (in_file (files_of s.problem.draft) file (lives_of_solution s)) (in_file (files_of s.problem.draft) file s.numbers)

-- what an interval with lists of places, each an issue time and an alternative, and of numbers says
abbrev pub listed : ProblemData → ℕ → List (ℕ × ℕ) → List ℕ → SolutionData
listed problem ii places numbers =
    record { problem = problem; ii = ii; times = map (λ (p : ℕ × ℕ). p.0) places; choices = map (λ (p : ℕ × ℕ). p.1) places; numbers = numbers }
