-- Why the intervals of a loop give no kernel, as it is told.
use Rattle.std.specs.Prelude.{◌≡◌, ℕ, Bool, true, false, not, ◌&&◌, ◌||◌, List, [], ◌∷◌, Option, Some}
use Rattle.std.specs.List.{list_any}
use Rattle.ims.specs.Culprits.{AnswersCulprit}
use Rattle.loop_schedules.specs.Problems.{ProblemData, budget_of}
use Rattle.loop_schedules.specs.Schedules.{ScheduleData}
use Rattle.registers.specs.declared.lifetime.Lifetime.{Lifetime}
use Rattle.rotating.specs.Needs.{IsNeed}
use Rattle.loop_listings.specs.declared.causes.Cause.{Cause}
use Rattle.loop_listings.specs.declared.causes.Cause.TheVariants.{Registers}
use Rattle.loop_listings.specs.Causes.{culprit_cause}
use Rattle.candidates.specs.Outcomes.{FailsBy}
use Rattle.told_intervals.specs.Reasons.{LacksFor}
use Rattle.told_choices.specs.declared.why.Why.{Why}
use Rattle.told_choices.specs.declared.why.Why.TheVariants.{Attempt, Register, Need}

-- the cause for which the interval gives no kernel
abbrev pub why_cause : Why → Cause
why_cause (Attempt culprit) = culprit_cause culprit
why_cause (Register life) = Registers
why_cause (Need life need) = Registers

-- the attempt's schedule has this first value without a register, and this is how many registers all its values need
abbrev pub NeedsFor : ProblemData → ℕ → Lifetime → Option ℕ → Type 0
NeedsFor problem ii life need = (schedule : ScheduleData) × LacksFor problem ii life schedule × IsNeed schedule need

-- what keeps the interval from a kernel
abbrev pub IsWhy : ProblemData → ℕ → Why → Type 0
IsWhy problem ii (Attempt culprit) = AnswersCulprit problem ii (budget_of problem) (Some culprit)
IsWhy problem ii (Register life) = (schedule : ScheduleData) × LacksFor problem ii life schedule
IsWhy problem ii (Need life need) = NeedsFor problem ii life need

-- an interval gives no kernel, by the cause of this, and this is why
pub record FailsAs (problem : ProblemData) (ii : ℕ) (why : Why) : Type 0 where
  pub fails : FailsBy problem ii (why_cause why)
  pub is : IsWhy problem ii why

-- the interval fails for registers
abbrev pub lacks : Why → Bool
lacks (Attempt culprit) = false
lacks (Register life) = true
lacks (Need life need) = true

-- .. and it is told how many it needs
abbrev pub tells_need : Why → Bool
tells_need (Attempt culprit) = false
tells_need (Register life) = false
tells_need (Need life need) = true

-- of the intervals that fail for registers, the first and the last tell the need, and no other; `before` tells whether one did before these
abbrev pub TellNeeds : Bool → List Why → Type 0
TellNeeds before [] = Unit {0}
TellNeeds before (why ∷ whys) =
    (tells_need why ≡ (lacks why && (not before || not (list_any lacks whys)))) × TellNeeds (before || lacks why) whys
