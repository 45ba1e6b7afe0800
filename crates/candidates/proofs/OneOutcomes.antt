-- An interval gives one thing.
use Rattle.std.proofs.Common.{◌≡◌, ℕ, refl, sym, ap, ◌∙◌, subst}
use Rattle.modulo.specs.declared.outcome.attempts.Failure.TheVariants as failure
use Rattle.ims.specs.declared.outcome.attempts.Try.TheVariants as try
use Rattle.loop_schedules.specs.Problems.{ProblemData, IsProblem, budget_of}
use Rattle.loop_schedules.specs.Schedules.{ScheduleData}
use Rattle.ims.proofs.answers.OneAnswers.{one-answer}
use Rattle.kernel.specs.declared.kernels.parts.Parts.{Parts}
use Rattle.overlap.specs.Allotments.{AreLeast, HaveNone, NoneFor}
use Rattle.overlap.specs.Emission.{emitted}
use Rattle.overlap.specs.Lifetimes.{lifetimes_of}
use Rattle.registers.proofs.allotted.Least.{least-is_one, least-or_none}
use Rattle.loop_listings.specs.declared.causes.Cause.{Cause}
use Rattle.loop_listings.specs.declared.causes.Cause.TheVariants.{Table, Budget, Stages, Registers}
use Rattle.candidates.specs.declared.outcomes.Outcome.TheVariants.{Met, Failed}
use Rattle.candidates.specs.Outcomes.{IsPlacedAs, HasKernel, GivesKernel, FailsBy, OneOutcome}

same_schedule : (p : ProblemData) (ii : ℕ) (s t : ScheduleData) → IsProblem p → IsPlacedAs p ii s → IsPlacedAs p ii t → s ≡ t
same_schedule p ii s t is a b = let e = one-answer p ii (budget_of p) (try.Placed s) (try.Placed t) is a b in cc

one_kernel : (s : ScheduleData) (k j : Parts) → HasKernel s k → HasKernel s j → k ≡ j
one_kernel s k j a b = a.is_kernel ∙ ap (emitted s) same ∙ sym b.is_kernel
  where
    registers : b.allotment.registers ≡ a.allotment.registers
    registers = b.same_registers ∙ sym a.same_registers

    numbers : a.allotment.numbers ≡ b.allotment.numbers
    numbers = least-is_one s.ii a.allotment.registers (lifetimes_of s) a.allotment.numbers b.allotment.numbers a.is_least
        (subst (λ r. AreLeast s.ii r (lifetimes_of s) b.allotment.numbers) registers b.is_least)

    same : a.allotment ≡ b.allotment
    same = λ i. record { registers = sym registers i; numbers = numbers i }

-- a kernel leaves no cause
not_both : (p : ProblemData) (ii : ℕ) (k : Parts) (cause : Cause) → IsProblem p → GivesKernel p ii k → FailsBy p ii cause → ⊥
not_both p ii k Table is a f = let e = one-answer p ii (budget_of p) (try.Placed a.schedule) (try.Failed failure.Table) is a.is_schedule f in cc
not_both p ii k Budget is a f = let e = one-answer p ii (budget_of p) (try.Placed a.schedule) (try.Failed failure.Budget) is a.is_schedule f in cc
not_both p ii k Stages is a f = let e = one-answer p ii (budget_of p) (try.Placed a.schedule) (try.Failed failure.Stages) is a.is_schedule f in cc
not_both p ii k Registers is a f = lacks a.schedule a.has_kernel (subst (λ s. NoneFor s s.problem.registers) (same_schedule p ii f.schedule a.schedule is f.is_schedule a.is_schedule) f.none)
  where
    lacks : (s : ScheduleData) → HasKernel s k → NoneFor s s.problem.registers → ⊥
    lacks s h none = least-or_none s.ii h.allotment.registers (lifetimes_of s) h.allotment.numbers h.is_least
        (subst (λ r. HaveNone s.ii r (lifetimes_of s)) (sym h.same_registers) none)

one_cause : (p : ProblemData) (ii : ℕ) (c d : Cause) → IsProblem p → FailsBy p ii c → FailsBy p ii d → c ≡ d
one_cause p ii Table Table is a b = refl
one_cause p ii Table Budget is a b = let e = one-answer p ii (budget_of p) (try.Failed failure.Table) (try.Failed failure.Budget) is a b in cc
one_cause p ii Table Stages is a b = let e = one-answer p ii (budget_of p) (try.Failed failure.Table) (try.Failed failure.Stages) is a b in cc
one_cause p ii Table Registers is a b = let e = one-answer p ii (budget_of p) (try.Failed failure.Table) (try.Placed b.schedule) is a b.is_schedule in cc
one_cause p ii Budget Table is a b = let e = one-answer p ii (budget_of p) (try.Failed failure.Budget) (try.Failed failure.Table) is a b in cc
one_cause p ii Budget Budget is a b = refl
one_cause p ii Budget Stages is a b = let e = one-answer p ii (budget_of p) (try.Failed failure.Budget) (try.Failed failure.Stages) is a b in cc
one_cause p ii Budget Registers is a b = let e = one-answer p ii (budget_of p) (try.Failed failure.Budget) (try.Placed b.schedule) is a b.is_schedule in cc
one_cause p ii Stages Table is a b = let e = one-answer p ii (budget_of p) (try.Failed failure.Stages) (try.Failed failure.Table) is a b in cc
one_cause p ii Stages Budget is a b = let e = one-answer p ii (budget_of p) (try.Failed failure.Stages) (try.Failed failure.Budget) is a b in cc
one_cause p ii Stages Stages is a b = refl
one_cause p ii Stages Registers is a b = let e = one-answer p ii (budget_of p) (try.Failed failure.Stages) (try.Placed b.schedule) is a b.is_schedule in cc
one_cause p ii Registers Table is a b = let e = one-answer p ii (budget_of p) (try.Placed a.schedule) (try.Failed failure.Table) is a.is_schedule b in cc
one_cause p ii Registers Budget is a b = let e = one-answer p ii (budget_of p) (try.Placed a.schedule) (try.Failed failure.Budget) is a.is_schedule b in cc
one_cause p ii Registers Stages is a b = let e = one-answer p ii (budget_of p) (try.Placed a.schedule) (try.Failed failure.Stages) is a.is_schedule b in cc
one_cause p ii Registers Registers is a b = refl

pub one_outcome : OneOutcome
one_outcome p ii (Met k) (Met j) is low a b =
    ap Met (one_kernel a.schedule k j a.has_kernel (subst (λ s. HasKernel s j) (same_schedule p ii b.schedule a.schedule is b.is_schedule a.is_schedule) b.has_kernel))
one_outcome p ii (Met k) (Failed c) is low a b = absurd (not_both p ii k c is a b)
one_outcome p ii (Failed c) (Met k) is low a b = absurd (not_both p ii k c is b a)
one_outcome p ii (Failed c) (Failed d) is low a b = ap Failed (one_cause p ii c d is a b)
