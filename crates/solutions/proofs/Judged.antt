-- What is broken, file by file, is what is broken first.
use Rattle.std.proofs.Common.{◌≡◌, ℕ, List, Result, Ok, Err, Some, sym, ap, ◌∙◌, subst, arith}
use Rattle.std.specs.Prelude.{IfOk, MatchResult, slice_get}
use Rattle.schedules.specs.Schedules.{ScheduleData, IsSchedule, as_listed}
use Rattle.problems.specs.declared.draft.File.{File}
use Rattle.problems.specs.declared.draft.File.TheVariants.{Rotating, Unallotted}
use Rattle.problems.specs.Problems.{ProblemData}
use Rattle.solutions.specs.declared.judging.broken.Broken.{Broken}
use Rattle.solutions.specs.declared.judging.broken.Broken.TheVariants.{Interval, Numbers, Number, Schedule, Registers}
use Rattle.solutions.specs.Breaks.{AreRight, IsFirstBroken}
use Rattle.solutions.specs.inner.Judging.{Meets, MeetsFirst}
use Rattle.solutions.specs.Solutions.{SolutionData, IsLawfulSolution, files_of, listed, lives_at, lives_of_solution}
use Rattle.solutions.proofs.Lives.{length-files}
use Rattle.solutions.proofs.Numbered.{solution_of}

-- at the schedule that is listed
pub meets-is_first : (p : ProblemData) (ii : ℕ) (places : List (ℕ × ℕ)) (numbers : List ℕ) (broken : Broken) → AreRight p.draft ii numbers → IsSchedule (as_listed p.scheduling ii places)
    → MeetsFirst ii p.draft.files.items (files_of p.draft) (lives_of_solution (listed p ii places numbers)) numbers broken → IsFirstBroken p ii places numbers broken
meets-is_first p ii places numbers broken right is m = of-kind broken m.kind m.is_kind m.meets
  where
    of-kind : (b : Broken) (kind : File) → slice_get p.draft.files.items m.file ≡ Some kind
        → Meets ii (files_of p.draft) (lives_of_solution (listed p ii places numbers)) numbers m.file kind b → IsFirstBroken p ii places numbers b
    of-kind Interval (Rotating registers) e h = absurd h
    of-kind Numbers (Rotating registers) e h = absurd h
    of-kind (Number value) (Rotating registers) e h = absurd h
    of-kind (Schedule breach) (Rotating registers) e h = absurd h
    of-kind Interval Unallotted e h = absurd h
    of-kind Numbers Unallotted e h = absurd h
    of-kind (Number value) Unallotted e h = absurd h
    of-kind (Schedule breach) Unallotted e h = absurd h
    of-kind (Registers file earlier later register cycle) Unallotted e h = absurd h
    of-kind (Registers file earlier later register cycle) (Rotating registers) e h =
        let l = length-files p.draft in
        let n = h.is_meeting in
        subst (λ f. IsFirstBroken p ii places numbers (Registers f earlier later register cycle)) (sym h.same_file)
        (record {
          are_right = right;
          is_schedule = is;
          registers = registers;
          is_rotating = e;
          earlier_in = record { there = (let t = n.earlier_there in omega arith); is_file = n.earlier_file };
          later_in = record { there = (let t = n.later_there in omega arith); is_file = n.later_file };
          is_first = n.is_first;
          before = λ sooner more lt f. m.before sooner (Rotating more) lt f;
        })

-- what is found for a schedule, and what that says of the lists

abbrev pub IsFound : ProblemData → ScheduleData → List ℕ → Result SolutionData Broken → Type 0
IsFound p schedule numbers found = MatchResult found (λ s. IsLawfulSolution s × (s ≡ solution_of p schedule numbers))
    (MeetsFirst schedule.ii p.draft.files.items (files_of p.draft) (lives_at p.draft schedule) numbers)

abbrev pub IsJudged : ProblemData → ℕ → List (ℕ × ℕ) → List ℕ → Result SolutionData Broken → Type 0
IsJudged p ii places numbers found = MatchResult found (λ s. IsLawfulSolution s × (s ≡ listed p ii places numbers)) (IsFirstBroken p ii places numbers)

judged-found : (p : ProblemData) (ii : ℕ) (places : List (ℕ × ℕ)) (numbers : List ℕ) (schedule : ScheduleData) (found : Result SolutionData Broken) → AreRight p.draft ii numbers → IsSchedule schedule
    → schedule ≡ as_listed p.scheduling ii places → IsFound p schedule numbers found → IsJudged p ii places numbers found
judged-found p ii places numbers schedule (Ok s) right is same h = (h.0, h.1 ∙ ap (λ (x : ScheduleData). solution_of p x numbers) same)
judged-found p ii places numbers schedule (Err broken) right is same h =
    meets-is_first p ii places numbers broken right (subst IsSchedule same is)
    (subst (λ (x : ScheduleData). MeetsFirst x.ii p.draft.files.items (files_of p.draft) (lives_at p.draft x) numbers broken) same h)

pub judged : {E : Type 0} (p : ProblemData) (ii : ℕ) (places : List (ℕ × ℕ)) (numbers : List ℕ) (schedule : ScheduleData) (r : Result (Result SolutionData Broken) E) → AreRight p.draft ii numbers → IsSchedule schedule
    → schedule ≡ as_listed p.scheduling ii places → IfOk r (IsFound p schedule numbers) → IfOk r (IsJudged p ii places numbers)
judged p ii places numbers schedule (Ok found) right is same h = judged-found p ii places numbers schedule found right is same h
judged p ii places numbers schedule (Err e) right is same h = h
