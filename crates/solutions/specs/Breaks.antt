-- What lists of places and numbers break first, where they are no solution.
use Rattle.std.specs.Prelude.{◌≡◌, ◌≢◌, ℕ, ◌<◌, ◌≤◌, List, length, Some, slice_get, slice_index}
use Rattle.machine_data.specs.declared.limits.TheConstants.{MAX_INTERVAL}
use Rattle.schedules.specs.declared.breach.Breach.{Breach}
use Rattle.schedules.specs.Breaches.{IsFirstBreach}
use Rattle.schedules.specs.Schedules.{IsSchedule, as_listed}
use Rattle.problems.specs.declared.draft.Draft.{Draft}
use Rattle.problems.specs.declared.draft.File.TheVariants.{Rotating}
use Rattle.problems.specs.Problems.{ProblemData}
use Rattle.registers.specs.Allotments.{IsLawfulAllotment}
use Rattle.registers.specs.Meetings.{IsFirstMeeting}
use Rattle.solutions.specs.declared.judging.broken.Broken.{Broken}
use Rattle.solutions.specs.declared.judging.broken.Broken.TheVariants.{Interval, Numbers, Number, Schedule, Registers}
use Rattle.solutions.specs.Files.{in_file, place_in}
use Rattle.solutions.specs.Solutions.{IsLawfulSolution, IsRightNumber, files_of, listed, lives_of_solution}

abbrev pub IsInterval : ℕ → Type 0
IsInterval ii = (1 ≤ ii) × (ii ≤ MAX_INTERVAL)

-- there is not one number for each value
pub record BreaksNumbers (draft : Draft) (ii : ℕ) (numbers : List ℕ) : Type 0 where
  pub is_interval : IsInterval ii
  pub count : length numbers ≢ length draft.values.items

-- the first number that is not right is that of this value
pub record BreaksNumber (draft : Draft) (ii : ℕ) (numbers : List ℕ) (value : ℕ) : Type 0 where
  pub is_interval : IsInterval ii
  pub each : length numbers ≡ length draft.values.items
  pub there : value < length draft.values.items
  pub wrong : ¬ IsRightNumber draft numbers value
  pub before : (sooner : ℕ) → sooner < value → IsRightNumber draft numbers sooner

-- the interval and all numbers are right
pub record AreRight (draft : Draft) (ii : ℕ) (numbers : List ℕ) : Type 0 where
  pub is_interval : IsInterval ii
  pub each : length numbers ≡ length draft.values.items
  pub right : (value : ℕ) → value < length draft.values.items → IsRightNumber draft numbers value

-- the places are no schedule
pub record BreaksSchedule (problem : ProblemData) (ii : ℕ) (places : List (ℕ × ℕ)) (numbers : List ℕ) (breach : Breach) : Type 0 where
  pub are_right : AreRight problem.draft ii numbers
  pub is_first : IsFirstBreach problem.scheduling ii places breach

-- a value of a file
pub record IsOfFile (draft : Draft) (file value : ℕ) : Type 0 where
  pub there : value < length draft.values.items
  pub is_file : slice_index (files_of draft) value ≡ file

-- of the first rotating file whose numbers are not lawful these are the first two values that meet
pub record BreaksRegisters (problem : ProblemData) (ii : ℕ) (places : List (ℕ × ℕ)) (numbers : List ℕ) (file earlier later register cycle : ℕ) : Type 0 where
  pub are_right : AreRight problem.draft ii numbers
  pub is_schedule : IsSchedule (as_listed problem.scheduling ii places)
  pub registers : ℕ
  pub is_rotating : slice_get problem.draft.files.items file ≡ Some (Rotating registers)
  pub earlier_in : IsOfFile problem.draft file earlier
  pub later_in : IsOfFile problem.draft file later
  pub is_first : IsFirstMeeting ii registers
      (in_file (files_of problem.draft) file (lives_of_solution (listed problem ii places numbers)))
      (in_file (files_of problem.draft) file numbers)
      (record { earlier = place_in (files_of problem.draft) file earlier; later = place_in (files_of problem.draft) file later; register = register; cycle = cycle })
  pub before : (sooner more : ℕ) → sooner < file → slice_get problem.draft.files.items sooner ≡ Some (Rotating more)
      → IsLawfulAllotment ii more (in_file (files_of problem.draft) sooner (lives_of_solution (listed problem ii places numbers)))
      (in_file (files_of problem.draft) sooner numbers)

-- the first of all: the interval, the numbers, the schedule, and then the registers
abbrev pub IsFirstBroken : ProblemData → ℕ → List (ℕ × ℕ) → List ℕ → Broken → Type 0
IsFirstBroken problem ii places numbers Interval = ¬ IsInterval ii
IsFirstBroken problem ii places numbers Numbers = BreaksNumbers problem.draft ii numbers
IsFirstBroken problem ii places numbers (Number value) = BreaksNumber problem.draft ii numbers value
IsFirstBroken problem ii places numbers (Schedule breach) = BreaksSchedule problem ii places numbers breach
IsFirstBroken problem ii places numbers (Registers file earlier later register cycle) = BreaksRegisters problem ii places numbers file earlier later register cycle

-- law: whatever is named, the lists are no solution

abbrev pub BrokenIsUnlawful : Type 0
BrokenIsUnlawful = (problem : ProblemData) (ii : ℕ) (places : List (ℕ × ℕ)) (numbers : List ℕ) (broken : Broken)
    → IsFirstBroken problem ii places numbers broken → IsLawfulSolution (listed problem ii places numbers) → ⊥
