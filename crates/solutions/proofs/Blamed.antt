-- Culprits of a failed attempt are those of the failure of its interval.
use Rattle.std.proofs.Common.{◌≡◌, ℕ, Option, Some, refl, sym, subst}
use Rattle.modulo.specs.declared.outcome.attempts.Culprit.{Culprit}
use Rattle.modulo.specs.declared.outcome.attempts.Culprit.TheVariants.{Blocked, Unplaced, Late}
use Rattle.modulo.specs.Culprits.{AnswersCulprit, failure_of}
use Rattle.schedules.specs.Problems.{ProblemData as SchedulingData, budget_of}
use Rattle.modulo.proofs.answers.Blaming.{culprits-are_failures}
use Rattle.problems.specs.Problems.{ProblemData}
use Rattle.solutions.specs.declared.solving.outcome.Cause.{Cause}
use Rattle.solutions.specs.declared.solving.tried.Failure.{Failure}
use Rattle.solutions.specs.Failures.{FailsFor, IsEvidence}
use Rattle.solutions.specs.Outcomes.{FailsBy, cause_of}

-- the failure that these culprits make
abbrev pub failure_by : Culprit → Failure
failure_by culprit = record { cause = cause_of (failure_of culprit); culprit = Some culprit }

pub blamed : (p : ProblemData) (ii : ℕ) (culprit : Culprit) → AnswersCulprit p.scheduling ii (budget_of p.scheduling) (Some culprit) → FailsFor p ii (failure_by culprit)
blamed p ii (Blocked op) is = record {
  fails = culprits-are_failures p.scheduling ii (budget_of p.scheduling) (Blocked op) is;
  is = record { culprit = Blocked op; is_found = refl; same_cause = refl; is_culprit = is };
}
blamed p ii (Unplaced ops) is = record {
  fails = culprits-are_failures p.scheduling ii (budget_of p.scheduling) (Unplaced ops) is;
  is = record { culprit = Unplaced ops; is_found = refl; same_cause = refl; is_culprit = is };
}
blamed p ii (Late op time) is = record {
  fails = culprits-are_failures p.scheduling ii (budget_of p.scheduling) (Late op time) is;
  is = record { culprit = Late op time; is_found = refl; same_cause = refl; is_culprit = is };
}

pub blamed-by : (p : ProblemData) (ii : ℕ) (culprit : Culprit) (failure : Failure) → failure.cause ≡ cause_of (failure_of culprit) → failure.culprit ≡ Some culprit
    → AnswersCulprit p.scheduling ii (budget_of p.scheduling) (Some culprit) → FailsFor p ii failure
blamed-by p ii culprit failure by found is =
    let blame = blamed p ii culprit is in
    record {
      fails = subst (FailsBy p ii) (sym by) blame.fails;
      is = subst (IsEvidence p ii failure.cause) (sym found) (subst (λ (cause : Cause). IsEvidence p ii cause (Some culprit)) (sym by) blame.is);
    }

-- the culprits that an attempt met at a table's interval are those of the problem at it
pub culprit-of : (p : ProblemData) (s : SchedulingData) (i ii b : ℕ) (found : Option Culprit) → s ≡ p.scheduling → i ≡ ii → b ≡ budget_of s → AnswersCulprit s i b found
    → AnswersCulprit p.scheduling ii (budget_of p.scheduling) found
culprit-of p s i ii b found scheduled at budget answer =
    subst (λ (q : SchedulingData). AnswersCulprit q ii (budget_of q) found) scheduled
    (subst (λ n. AnswersCulprit s n (budget_of s) found) at (subst (λ n. AnswersCulprit s i n found) budget answer))
