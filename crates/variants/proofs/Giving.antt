-- What attempts give with other numbers of registers.
use Rattle.std.proofs.Common.{◌≡◌, ◌≤◌, ◌<◌, ◌+◌, ℕ, List, length, get_or, refl, sym, subst}
use Rattle.std.specs.Prelude.{Option, Some, None, MatchBool, MatchOption, is_some}
use Rattle.machine_data.specs.Machines.{MachineData}
use Rattle.ims.specs.declared.outcome.attempts.Try.{Try}
use Rattle.ims.specs.declared.outcome.attempts.Try.TheVariants as try
use Rattle.ims.specs.Attempts.{AnswersAttempt}
use Rattle.loop_schedules.specs.Problems.{IsProblem, IsProblemOf, ProblemData, budget_of, mii_of}
use Rattle.loop_schedules.specs.Schedules.{ScheduleData}
use Rattle.loop_schedules.proofs.problems.OneProblems.{one-problem}
use Rattle.overlap.specs.Allotments.{AllotmentData, AreLeast, HaveNone, LeastFor, NoneFor}
use Rattle.overlap.specs.Emission.{emitted}
use Rattle.overlap.specs.Lifetimes.{lifetimes_of}
use Rattle.loop_listings.specs.declared.causes.Cause.TheVariants.{Registers}
use Rattle.candidates.specs.Outcomes.{IsPlacedAs}
use Rattle.machine_variants.specs.declared.variant.Variant.TheVariants as variant
use Rattle.machine_variants.specs.Variants.{varied}
use Rattle.variants.specs.Intervals.{IsIntervalOf, IsVariedInterval}
use Rattle.variants.specs.inner.Tries.{AreTries, IsFailing, IsGiving, with_registers}

-- a problem with other registers
pub with-problem : (registers : ℕ) (p : ProblemData) → 1 ≤ registers → registers ≤ 256 → IsProblem p → IsProblem (with_registers registers p)
with-problem registers p some few is = record {
  loop = is.loop;
  is_problem = is.is_problem;
  each_operation = is.each_operation;
  sound = is.sound;
  complete = is.complete;
  registers_some = some;
  registers_few = few;
}

pub with-problem_of : (machine : MachineData) (registers : ℕ) (p : ProblemData) → 1 ≤ registers → registers ≤ 256 → IsProblemOf machine p.loop p.ratio p.ceiling p
    → IsProblemOf (varied (variant.Registers registers) machine) p.loop p.ratio p.ceiling (with_registers registers p)
with-problem_of machine registers p some few is = record {
  is_problem = with-problem registers p some few is.is_problem;
  same_loop = refl;
  latencies = is.latencies;
  alternatives = is.alternatives;
  same_registers = refl;
  same_ratio = refl;
  same_ceiling = refl;
}

-- a schedule of such a problem
abbrev pub with_schedule : ℕ → ScheduleData → ScheduleData
with_schedule registers s = record { problem = with_registers registers s.problem; ii = s.ii; times = s.times; choices = s.choices }

same-lives : (registers : ℕ) (s : ScheduleData) → lifetimes_of s ≡ lifetimes_of (with_schedule registers s)
unfolding lifetimes_of
same-lives registers s = refl

with-placed : (registers : ℕ) (ii : ℕ) (s : ScheduleData) → 1 ≤ registers → registers ≤ 256 → IsPlacedAs s.problem ii s → IsPlacedAs (with_registers registers s.problem) ii (with_schedule registers s)
with-placed registers ii s some few h = (
  h.0,
  h.1,
  refl,
  h.3,
  record {
    problem = with-problem registers s.problem some few h.4.problem;
    ii_some = h.4.ii_some;
    ii_few = h.4.ii_few;
    lawful = h.4.lawful;
    stages = h.4.stages;
  },
)

own-giving : (registers ii : ℕ) (s : ScheduleData) (a : AllotmentData) → 1 ≤ registers → registers ≤ 256 → IsPlacedAs s.problem ii s → a.registers ≡ registers → LeastFor s a
    → IsGiving (with_registers registers s.problem) ii
own-giving registers ii s a some few h same least = (
  emitted (with_schedule registers s) a,
  record {
    schedule = with_schedule registers s;
    is_schedule = with-placed registers ii s some few h;
    has_kernel = record {
      allotment = a;
      same_registers = same;
      is_least = subst (λ lives. AreLeast s.ii a.registers lives a.numbers) (same-lives registers s) least;
      is_kernel = refl;
    };
  },
)

own-failing : (registers ii : ℕ) (s : ScheduleData) → 1 ≤ registers → registers ≤ 256 → IsPlacedAs s.problem ii s → NoneFor s registers → IsFailing (with_registers registers s.problem) ii
own-failing registers ii s some few h none = (
  Registers,
  record {
    schedule = with_schedule registers s;
    is_schedule = with-placed registers ii s some few h;
    none = subst (λ lives. HaveNone s.ii registers lives) (same-lives registers s) none;
  },
)

-- an attempt that placed all operations, and its registers, if there are any
pub placed-gives : (p : ProblemData) (ii registers : ℕ) (s : ScheduleData) (found : Option AllotmentData) → 1 ≤ registers → registers ≤ 256
    → AnswersAttempt p ii (budget_of p) (try.Placed s) → MatchOption found (NoneFor s registers) (λ a. (a.registers ≡ registers) × LeastFor s a)
    → MatchBool (is_some found) (IsGiving (with_registers registers p) ii) (IsFailing (with_registers registers p) ii)
placed-gives p ii registers s None some few h none =
    subst (λ q. IsFailing (with_registers registers q) ii) h.2
    (own-failing registers ii s some few (subst (λ (q : ProblemData). AnswersAttempt q ii (budget_of q) (try.Placed s)) (sym h.2) h) none)
placed-gives p ii registers s (Some a) some few h least =
    subst (λ q. IsGiving (with_registers registers q) ii) h.2
    (own-giving registers ii s a some few (subst (λ (q : ProblemData). AnswersAttempt q ii (budget_of q) (try.Placed s)) (sym h.2) h) least.0 least.1)

-- the interval of a problem with other registers is that of its loop on that variant of the machine, and the other way round
pub varied-interval : (machine : MachineData) (registers : ℕ) (p : ProblemData) (interval : Option ℕ) → 1 ≤ registers → registers ≤ 256 → IsProblemOf machine p.loop p.ratio p.ceiling p
    → IsIntervalOf (with_registers registers p) interval → IsVariedInterval machine p (variant.Registers registers) interval
varied-interval machine registers p interval some few is h = record {
  problem = with_registers registers p;
  is_problem = with-problem_of machine registers p some few is;
  is_interval = h;
}

pub varied-only : (machine : MachineData) (registers : ℕ) (p : ProblemData) (interval : Option ℕ) → 1 ≤ registers → registers ≤ 256 → IsProblemOf machine p.loop p.ratio p.ceiling p
    → IsVariedInterval machine p (variant.Registers registers) interval → IsIntervalOf (with_registers registers p) interval
varied-only machine registers p interval some few is h =
    subst (λ q. IsIntervalOf q interval)
    (one-problem (varied (variant.Registers registers) machine) p.loop p.ratio p.ceiling h.problem (with_registers registers p) h.is_problem (with-problem_of machine registers p some few is))
    h.is_interval

pub item-tried : (p : ProblemData) (tries : List Try) (i : ℕ) (made : Try) → AreTries p tries → i < length tries → made ≡ get_or tries i made → AnswersAttempt p (mii_of p + i) (budget_of p) made
item-tried p tries i made are low is = subst (λ t. AnswersAttempt p (mii_of p + i) (budget_of p) t) (sym is) (are i made low)
