-- A loop has one choice.
use Rattle.std.proofs.Common.{◌≡◌, ◌≤◌, ℕ, ap, arith}
use Rattle.settings.proofs.Searches.{not_both, one_least}
use Rattle.kernel.specs.declared.kernels.parts.Parts.{Parts}
use Rattle.candidates.specs.declared.outcomes.Outcome.TheVariants as given
use Rattle.loop_listings.specs.declared.causes.Cause.{Cause}
use Rattle.loop_listings.specs.declared.choices.Choice.TheVariants.{Met, Failed}
use Rattle.loop_schedules.specs.Problems.{ProblemData, IsProblem, mii_of}
use Rattle.candidates.specs.Outcomes.{GivesKernel, FailsBy}
use Rattle.candidates.specs.Choices.{OneChoice, last_of}
use Rattle.candidates.proofs.OneOutcomes.{one_outcome}

same_kernel : (p : ProblemData) → IsProblem p → (ii : ℕ) (k m : Parts) → mii_of p ≤ ii → GivesKernel p ii k → GivesKernel p ii m → k ≡ m
same_kernel p is ii k m low a b = let e = one_outcome p ii (given.Met k) (given.Met m) is low a b in cc

same_cause : (p : ProblemData) → IsProblem p → (ii : ℕ) (c d : Cause) → mii_of p ≤ ii → FailsBy p ii c → FailsBy p ii d → c ≡ d
same_cause p is ii c d low a b = let e = one_outcome p ii (given.Failed c) (given.Failed d) is low a b in cc

pub one_choice : OneChoice
one_choice p (Met i k) (Met j m) is a b = one_least (GivesKernel p) Met (mii_of p) (last_of p) i j k m (same_kernel p is) a b
one_choice p (Met i k) (Failed d) is a b = absurd (not_both (GivesKernel p) (FailsBy p) (mii_of p) (last_of p) i k d a b)
one_choice p (Failed c) (Met j m) is a b = absurd (not_both (GivesKernel p) (FailsBy p) (mii_of p) (last_of p) j m c b a)
one_choice p (Failed c) (Failed d) is a b = ap Failed (same_cause p is (last_of p) c d (omega arith) a.fails b.fails)
