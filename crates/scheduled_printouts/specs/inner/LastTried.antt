-- What the last interval that is tried comes to.
use Rattle.std.specs.Prelude.{ℕ, Bool, true, false}
use Rattle.loop_schedules.specs.Problems.{ProblemData}
use Rattle.candidates.specs.Choices.{IsLeastMet, IsUnmet}
use Rattle.told_intervals.specs.declared.evidence.Tried.{Tried}
use Rattle.told_intervals.specs.declared.evidence.Tried.TheVariants.{Met, Failed}
use Rattle.told_intervals.specs.Reasons.{IsMet, reason_cause}

-- the least interval that gives a kernel gives this one, or none gives one and this is why the last one does not
abbrev pub IsLastTried : ProblemData → Tried → Type 0
IsLastTried problem (Met met) = (ii : ℕ) × IsLeastMet problem ii met.kernel × IsMet problem ii met
IsLastTried problem (Failed reason) = IsUnmet problem (reason_cause reason)

-- the interval gives a kernel
abbrev pub gives_kernel : Tried → Bool
gives_kernel (Met met) = true
gives_kernel (Failed reason) = false
