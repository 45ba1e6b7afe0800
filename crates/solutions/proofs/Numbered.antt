-- The numbers that are written give a solution, or a cause.
use Rattle.std.proofs.Common.{◌≡◌, ℕ, List, length, Option, Some, refl, sym, ap, subst, arith}
use Rattle.std.specs.Prelude.{slice_get, slice_index}
use Rattle.schedules.specs.Schedules.{ScheduleData, IsSchedule}
use Rattle.problems.specs.declared.draft.File.{File}
use Rattle.problems.specs.declared.draft.File.TheVariants.{Rotating, Unallotted}
use Rattle.problems.specs.Problems.{ProblemData, IsProblem}
use Rattle.registers.specs.declared.lifetime.Lifetime.{Lifetime}
use Rattle.registers.specs.Allotments.{AreLeast, IsLawfulAllotment}
use Rattle.solutions.specs.Files.{in_file}
use Rattle.solutions.specs.inner.Filling.{AreFilled, Lacks, LacksFirst}
use Rattle.solutions.specs.inner.Judging.{AreApart}
use Rattle.solutions.specs.Breaks.{AreRight}
use Rattle.solutions.specs.declared.solving.outcome.Cause.{Cause}
use Rattle.solutions.specs.declared.solving.outcome.Cause.TheVariants.{Registers}
use Rattle.solutions.specs.Outcomes.{FailsBy, Gives, HasNoNumber, IsPlacedAs, LacksRegister}
use Rattle.solutions.specs.Solutions.{SolutionData, IsLawfulSolution, IsNumberIn, files_of, lives_at, schedule_of}
use Rattle.solutions.proofs.Lives.{length-files}

-- the solution of a schedule and numbers
abbrev pub solution_of : ProblemData → ScheduleData → List ℕ → SolutionData
solution_of p schedule numbers = record { problem = p; ii = schedule.ii; times = schedule.times; choices = schedule.choices; numbers = numbers }

pub scheduled-is : (p : ProblemData) (schedule : ScheduleData) (numbers : List ℕ) → schedule.problem ≡ p.scheduling → schedule_of (solution_of p schedule numbers) ≡ schedule
scheduled-is p schedule numbers same = λ i. record { problem = sym same i; ii = schedule.ii; times = schedule.times; choices = schedule.choices }

pub gives-from : (p : ProblemData) (schedule : ScheduleData) (numbers : List ℕ) → IsPlacedAs p schedule.ii schedule → length numbers ≡ length p.draft.values.items
    → AreFilled schedule.ii p.draft.files.items (files_of p.draft) (lives_at p.draft schedule) numbers → Gives p schedule.ii (solution_of p schedule numbers)
gives-from p schedule numbers placed long filled = record {
  same_problem = refl;
  same_interval = refl;
  is_placed = subst (IsPlacedAs p schedule.ii) (sym (scheduled-is p schedule numbers placed.2)) placed;
  least = record {
    numbers = record { each = long; zero = λ value there is. filled.zero value is };
    files = λ file registers is.
        subst (λ (lives : List Lifetime). AreLeast schedule.ii registers (in_file (files_of p.draft) file lives) (in_file (files_of p.draft) file numbers))
        (sym (ap (lives_at p.draft) (scheduled-is p schedule numbers placed.2))) (filled.filled file (Rotating registers) is);
  };
}

pub lacks-from : (p : ProblemData) (schedule : ScheduleData) (file value : ℕ) → IsPlacedAs p schedule.ii schedule
    → LacksFirst schedule.ii p.draft.files.items (files_of p.draft) (lives_at p.draft schedule) file value → LacksRegister p schedule.ii file value
lacks-from p schedule file value placed lacks = record {
  schedule = schedule;
  is_placed = placed;
  has_none = of-kind lacks.kind lacks.is_kind lacks.lacks;
  before = λ sooner registers lt is. let b = lacks.before sooner (Rotating registers) lt is in (in_file (files_of p.draft) sooner b.0, b.1);
}
  where
    of-kind : (kind : File) → slice_get p.draft.files.items file ≡ Some kind → Lacks schedule.ii (files_of p.draft) (lives_at p.draft schedule) file value kind → HasNoNumber p.draft schedule file value
    of-kind (Rotating registers) is left = record {
      registers = registers;
      is_rotating = is;
      there = (let l = length-files p.draft in let t = left.there in omega arith);
      is_file = left.is_file;
      numbers = left.numbers;
      has_none = left.has_none;
    }
    of-kind Unallotted is left = absurd left

-- where it is not told which value has no number
pub lacks-some-from : (p : ProblemData) (schedule : ScheduleData) → IsPlacedAs p schedule.ii schedule
    → ((file : ℕ) × (value : ℕ) × LacksFirst schedule.ii p.draft.files.items (files_of p.draft) (lives_at p.draft schedule) file value)
    → (cause : Cause) × FailsBy p schedule.ii cause
lacks-some-from p schedule placed lacks = (Registers lacks.0 lacks.1, lacks-from p schedule lacks.0 lacks.1 placed lacks.2)

pub lawful-from : (p : ProblemData) (schedule : ScheduleData) (numbers : List ℕ) → IsProblem p → IsSchedule schedule → schedule.problem ≡ p.scheduling → AreRight p.draft schedule.ii numbers
    → AreApart schedule.ii p.draft.files.items (files_of p.draft) (lives_at p.draft schedule) numbers → IsLawfulSolution (solution_of p schedule numbers)
lawful-from p schedule numbers is scheduled same right apart = record {
  is_problem = is;
  is_schedule = subst IsSchedule (sym (scheduled-is p schedule numbers same)) scheduled;
  numbers = record {
    each = right.each;
    zero = λ value there e. subst (λ (kind : Option File). IsNumberIn kind (slice_index numbers value)) e (right.right value there);
  };
  files = λ file registers e.
      subst (λ (lives : List Lifetime). IsLawfulAllotment schedule.ii registers (in_file (files_of p.draft) file lives) (in_file (files_of p.draft) file numbers))
      (sym (ap (lives_at p.draft) (scheduled-is p schedule numbers same))) (apart file (Rotating registers) e);
}

-- the same of what is equal
pub moved : (P : ℕ → List File → List ℕ → List Lifetime → Type 0) (ii n : ℕ) (ks ls : List File) (fs gs : List ℕ) (xs ys : List Lifetime)
    → ii ≡ n → ks ≡ ls → fs ≡ gs → xs ≡ ys → P ii ks fs xs → P n ls gs ys
moved P ii n ks ls fs gs xs ys a b c d h =
    subst (λ m. P m ls gs ys) a (subst (λ (k : List File). P ii k gs ys) b (subst (λ f. P ii ks f ys) c (subst (λ (x : List Lifetime). P ii ks fs x) d h)))
