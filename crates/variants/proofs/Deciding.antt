-- Whether a problem has an interval, by what the intervals give, and the least registers for it.
use Rattle.std.proofs.Common.{◌≡◌, ◌≤◌, ◌<◌, ◌+◌, ◌-◌, ℕ, Bool, true, false, sym, subst, inl, inr, below_more, arith}
use Rattle.std.proofs.lemmas.Bool.{cases_lt}
use Rattle.std.specs.Prelude.{Some, None, MatchBool, not}
use Rattle.machine_data.specs.Machines.{MachineData}
use Rattle.loop_schedules.specs.Problems.{IsProblem, ProblemData, mii_of}
use Rattle.loop_listings.specs.declared.causes.Cause.{Cause}
use Rattle.candidates.specs.Outcomes.{FailsBy, GivesKernel}
use Rattle.candidates.proofs.Rising.{Risen, met_here, none_where, risen_none, risen_on, unmet_here}
use Rattle.loop_listings.specs.declared.causes.Cause.TheVariants.{Table}
use Rattle.variants.specs.Intervals.{IsIntervalOf, IsLeastNumber}
use Rattle.variants.specs.Findings.{IsOn}
use Rattle.variants.specs.inner.Tries.{AreFailing, IsFailing, IsGiving, with_registers}
use Rattle.variants.proofs.Giving.{varied-interval, varied-only}

-- the first `above` intervals fail
pub record HaveRisen (p : ProblemData) (above : ℕ) : Type 0 where
  pub last : Cause
  pub risen : Risen p above last

pub risen-none : (p : ProblemData) → HaveRisen p 0
risen-none p = record { last = Table; risen = risen_none p Table }

pub risen-more : (p : ProblemData) (above : ℕ) → IsProblem p → HaveRisen p above → IsFailing p (mii_of p + above) → HaveRisen p (above + 1)
risen-more p above is h fails = record { last = fails.0; risen = risen_on p above h.last fails.0 is h.risen fails.1 }

pub met-interval : (p : ProblemData) (above m : ℕ) → HaveRisen p above → IsGiving p (mii_of p + above) → above ≤ p.ceiling → m ≡ mii_of p → IsIntervalOf p (Some (m + above))
met-interval p above m h gives few same =
    (gives.0, met_here p above m h.last gives.0 h.risen (subst (λ n. GivesKernel p (n + above) gives.0) (sym same) gives.1) few same)

pub no-interval : (p : ProblemData) (above : ℕ) → HaveRisen p above → above ≡ p.ceiling + 1 → IsIntervalOf p None
no-interval p above h at = (h.last, unmet_here p above h.last h.risen at)

-- the interval, where those before it fail
pub has-interval : (p : ProblemData) (above : ℕ) → IsProblem p → above ≤ p.ceiling → IsGiving p (mii_of p + above) → AreFailing p above → IsIntervalOf p (Some (mii_of p + above))
has-interval p above is few gives failing = (
  gives.0,
  record {
    from_first = omega arith;
    to_last = omega (arith, few);
    is_given = gives.1;
    least = λ ii kernel low high given.
        let k : ℕ = ii - mii_of p in
        let at : mii_of p + k ≡ ii = omega (arith, low) in
        let f = failing k (omega (arith, low, high)) in
        none_where p ii f.0 is low (subst (λ n. FailsBy p n f.0) at f.1) kernel given;
  },
)

-- it is not, where it fails
pub fails-itself : (p : ProblemData) (above : ℕ) → IsProblem p → IsFailing p (mii_of p + above) → IsIntervalOf p (Some (mii_of p + above)) → ⊥
fails-itself p above is fails h = none_where p (mii_of p + above) fails.0 is (omega arith) fails.1 h.0 h.1.is_given

-- nor where one before it gives a kernel
pub given-before : (p : ProblemData) (above before : ℕ) → before < above → IsGiving p (mii_of p + before) → IsIntervalOf p (Some (mii_of p + above)) → ⊥
given-before p above before low gives h = h.1.least (mii_of p + before) gives.0 (omega arith) (omega (arith, low)) gives.1

pub failing-more : (p : ProblemData) (count : ℕ) → AreFailing p count → IsFailing p (mii_of p + count) → AreFailing p (count + 1)
failing-more p count failing fails above low = below_more (λ k. IsFailing p (mii_of p + k)) count failing fails above low

-- the interval is that of the last attempt just where none of the others gives a kernel
pub decided : (p : ProblemData) (above : ℕ) (b : Bool) → IsProblem p → above ≤ p.ceiling → IsGiving p (mii_of p + above)
    → MatchBool b ((k : ℕ) × (k < above) × IsGiving p (mii_of p + k)) (AreFailing p above)
    → MatchBool (not b) (IsIntervalOf p (Some (mii_of p + above))) (IsIntervalOf p (Some (mii_of p + above)) → ⊥)
decided p above true is few gives some = given-before p above some.0 some.1 some.2
decided p above false is few gives failing = has-interval p above is few gives failing

-- numbers of registers that do not give an interval
pub more-without : (p : ProblemData) (ii registers : ℕ) → ((other : ℕ) → 1 ≤ other → other < registers → IsIntervalOf (with_registers other p) (Some ii) → ⊥)
    → (IsIntervalOf (with_registers registers p) (Some ii) → ⊥) → (other : ℕ) → 1 ≤ other → other < registers + 1 → IsIntervalOf (with_registers other p) (Some ii) → ⊥
more-without p ii registers before here other low high = elim (cases_lt other registers) [
  | inl less ↦ before other low less
  | inr past ↦ (let same : registers ≡ other = omega (arith, past, high) in subst (λ r. IsIntervalOf (with_registers r p) (Some ii) → ⊥) same here)
]

pub least-of : (machine : MachineData) (p : ProblemData) (ii registers : ℕ) → 1 ≤ registers → registers ≤ 256 → IsOn machine p
    → ((other : ℕ) → 1 ≤ other → other < registers → IsIntervalOf (with_registers other p) (Some ii) → ⊥) → IsIntervalOf (with_registers registers p) (Some ii) → IsLeastNumber machine p ii registers
least-of machine p ii registers some few on before here = record {
  some = some;
  few = few;
  works = varied-interval machine registers p (Some ii) some few on.is_problem here;
  least = λ other low high h. before other low high (varied-only machine other p (Some ii) low (omega (arith, high, few)) on.is_problem h);
}
