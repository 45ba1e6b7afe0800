-- A loop's intervals in turn.
use Rattle.std.proofs.Common.{◌≡◌, ℕ, ◌+◌, ◌≤◌, Bool, true, false, ap, arith}
use Rattle.std.proofs.lemmas.Bool.{false≢true}
use Rattle.settings.proofs.Searches as search
use Rattle.loop_schedules.specs.Problems.{ProblemData, IsProblem, mii_of}
use Rattle.kernel.specs.declared.kernels.parts.Parts.{Parts}
use Rattle.loop_listings.specs.declared.causes.Cause.{Cause}
use Rattle.candidates.specs.declared.outcomes.Outcome.{Outcome}
use Rattle.candidates.specs.declared.outcomes.Outcome.TheVariants.{Met, Failed}
use Rattle.candidates.specs.Outcomes.{GivesKernel, FailsBy}
use Rattle.candidates.specs.Choices.{IsLeastMet, IsUnmet}
use Rattle.candidates.proofs.OneOutcomes.{one_outcome}

-- the first `above` intervals tried, none of which gives a kernel; the cause is that of the last
abbrev pub Risen : ProblemData → ℕ → Cause → Type 0
Risen p above last = search.Risen (GivesKernel p) (FailsBy p) (mii_of p) above last

pub risen_none : (p : ProblemData) (last : Cause) → Risen p 0 last
risen_none p last = search.risen_none (GivesKernel p) (FailsBy p) (mii_of p) last

abbrev is_met : Outcome → Bool
is_met (Met k) = true
is_met (Failed c) = false

-- an interval that fails gives no kernel
pub none_where : (p : ProblemData) (ii : ℕ) (cause : Cause) → IsProblem p → mii_of p ≤ ii → FailsBy p ii cause → (kernel : Parts) → GivesKernel p ii kernel → ⊥
none_where p ii cause is low fails kernel g = false≢true (ap is_met (one_outcome p ii (Failed cause) (Met kernel) is low fails g))

pub risen_on : (p : ProblemData) (above : ℕ) (last cause : Cause) → IsProblem p → Risen p above last → FailsBy p (mii_of p + above) cause → Risen p (above + 1) cause
risen_on p above last cause is r fails =
    search.risen_on (GivesKernel p) (FailsBy p) (mii_of p) above last cause r (none_where p (mii_of p + above) cause is (omega arith) fails) fails

pub met_here : (p : ProblemData) (above m : ℕ) (last : Cause) (kernel : Parts) → Risen p above last → GivesKernel p (m + above) kernel → above ≤ p.ceiling → m ≡ mii_of p → IsLeastMet p (m + above) kernel
met_here p above m last kernel r gives few same =
    search.met_here (GivesKernel p) (FailsBy p) (mii_of p) p.ceiling above (m + above) last kernel r gives few (ap (λ n. n + above) same)

pub unmet_here : (p : ProblemData) (above : ℕ) (last : Cause) → Risen p above last → above ≡ p.ceiling + 1 → IsUnmet p last
unmet_here p above last r at = search.unmet_here (GivesKernel p) (FailsBy p) (mii_of p) p.ceiling above last r at
