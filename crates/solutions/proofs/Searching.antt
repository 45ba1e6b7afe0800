-- Intervals tried in turn, of which only the last one is told why it gives no solution.
use Rattle.std.proofs.Common.{◌≡◌, ℕ, ◌+◌, ◌≤◌, Some, None, refl, sym, ap, ◌∙◌, subst, arith}
use Rattle.modulo.specs.declared.outcome.attempts.Failure.{Failure as Failed_by}
use Rattle.modulo.specs.declared.outcome.attempts.Failure.TheVariants as failure
use Rattle.modulo.specs.declared.outcome.attempts.Try.TheVariants as try
use Rattle.modulo.specs.Attempts.{AnswersAttempt}
use Rattle.schedules.specs.Problems.{ProblemData as SchedulingData, budget_of}
use Rattle.problems.specs.Problems.{ProblemData, IsProblem}
use Rattle.solutions.specs.declared.solving.outcome.Cause.{Cause}
use Rattle.solutions.specs.declared.solving.outcome.Cause.TheVariants.{Table, Budget, Stages}
use Rattle.solutions.specs.declared.solving.outcome.Outcome.TheVariants.{Met, Failed}
use Rattle.solutions.specs.declared.solving.tried.Failure.{Failure}
use Rattle.settings.proofs.Searches.{none_on}
use Rattle.solutions.specs.Failures.{FailsFor}
use Rattle.solutions.specs.Outcomes.{FailsBy, Gives, IsSolved, first_of, last_of}
use Rattle.solutions.specs.Solutions.{SolutionData}
use Rattle.solutions.specs.Told.{IsSearched}
use Rattle.solutions.proofs.Rightness.{given-is_right}
use Rattle.solutions.specs.inner.Searching.{IsFirstMet, NoneBefore}
use Rattle.solutions.proofs.OneOutcomes.{not-both}

-- by some cause an interval gives no solution
abbrev pub Fails : ProblemData → ℕ → Type 0
Fails p ii = (cause : Cause) × FailsBy p ii cause

pub none-first : (p : ProblemData) → NoneBefore p (first_of p + 0)
none-first p = λ ii s low less gives. absurd (omega arith)

none-on : (p : ProblemData) (ii : ℕ) → IsProblem p → NoneBefore p ii → Fails p ii → NoneBefore p (ii + 1)
none-on p ii is none f = none_on (Gives p) (first_of p) ii none (λ s gives. not-both p ii s f.0 is gives f.1)

pub none-more : (p : ProblemData) (above first : ℕ) → IsProblem p → first ≡ first_of p → NoneBefore p (first_of p + above) → Fails p (first + above) → NoneBefore p (first_of p + (above + 1))
none-more p above first is same none f = subst (NoneBefore p) (one-more (first_of p) above) (none-on p (first_of p + above) is none (subst (λ n. Fails p (n + above)) same f))
  where
    one-more : (m n : ℕ) → (m + n) + 1 ≡ m + (n + 1)
    one-more m n = omega arith

-- the first interval that gives a solution
pub first-met : (p : ProblemData) (above first : ℕ) (s : SolutionData) → IsProblem p → first ≡ first_of p → NoneBefore p (first_of p + above) → Gives p (first + above) s → above ≤ p.scheduling.ceiling
    → IsFirstMet p (Some s)
first-met p above first s is same none gives few =
    let at : s.ii ≡ first_of p + above = gives.same_interval ∙ ap (λ n. n + above) same in
    let least : IsSolved p (Met s) = record {
      from_first = omega arith;
      to_last = omega arith;
      is_given = subst (λ n. Gives p n s) (sym gives.same_interval) gives;
      least = subst (NoneBefore p) (sym at) none;
    } in
    (least, given-is_right p (first + above) s is gives)

pub searched-met : (p : ProblemData) (s : SolutionData) → IsFirstMet p (Some s) → IsSearched p (record { outcome = Met s; culprit = None })
searched-met p s met = record { is_solved = met.0; is_right = met.1; evidence = refl }

pub searched-unmet : (p : ProblemData) (failure : Failure) → IsProblem p → NoneBefore p (last_of p) → FailsFor p (last_of p) failure
    → IsSearched p (record { outcome = Failed failure.cause; culprit = failure.culprit })
searched-unmet p failure is none fails = record {
  is_solved = record { fails = fails.fails; none = none-on p (last_of p) is none (failure.cause, fails.fails) };
  is_right = tt;
  evidence = fails.is;
}

-- an attempt that fails does so by its cause
fails-by : (p : ProblemData) (ii : ℕ) (why : Failed_by) → AnswersAttempt p.scheduling ii (budget_of p.scheduling) (try.Failed why) → Fails p ii
fails-by p ii failure.Table is = (Table, is)
fails-by p ii failure.Budget is = (Budget, is)
fails-by p ii failure.Stages is = (Stages, is)

-- the same of an attempt at a table's interval
pub fails-at : (p : ProblemData) (s : SchedulingData) (i ii b : ℕ) (why : Failed_by) → s ≡ p.scheduling → i ≡ ii → b ≡ budget_of s → AnswersAttempt s i b (try.Failed why) → Fails p ii
fails-at p s i ii b why scheduled at budget answer =
    fails-by p ii why
    (subst (λ (q : SchedulingData). AnswersAttempt q ii (budget_of q) (try.Failed why)) scheduled
    (subst (λ n. AnswersAttempt s n (budget_of s) (try.Failed why)) at (subst (λ n. AnswersAttempt s i n (try.Failed why)) budget answer)))
