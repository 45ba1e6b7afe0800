-- What a problem that is given comes to.
use Rattle.std.proofs.Common.{◌≡◌, ℕ, subst, inl, inr, refl}
use Rattle.std.specs.Prelude.{Result, Ok, Err, List, length}
use Rattle.std.specs.List.{zip}
use Rattle.problems.specs.declared.draft.Draft.{Draft}
use Rattle.problems.specs.declared.fault.Fault.{Fault as AnyFault}
use Rattle.problems.specs.declared.fault.Refusal.{Refusal}
use Rattle.problems.specs.declared.fault.Refusal.TheVariants.{Fault, Memory}
use Rattle.problems.specs.Problems.{ProblemData, IsProblemOf, AnswersDraft}
use Rattle.solutions.specs.declared.solving.outcome.Outcome.{Outcome}
use Rattle.solutions.specs.Outcomes.{IsSolved}
use Rattle.solutions.specs.Runs.{IsRightOutcome}
use Rattle.capi.specs.declared.answer.Answer.{Answer}
use Rattle.capi.specs.declared.given.Problem.{Problem as GivenProblem}
use Rattle.capi.specs.Answers.{fault_answer}
use Rattle.capi.specs.Calls.{AnswersSolve, Arrays, EndsBy, IsAtFault, IsGiven, Tells, misfit_in}
use Rattle.capi.specs.Given.{IsDraftOf}
use Rattle.capi.specs.declared.verdict.Verdict.{Verdict}
use Rattle.capi.specs.Verdicts.{faulty_verdict}
use Rattle.capi.specs.Checks.{AnswersCheck, IsJudged}

pub ends_by : (given : GivenProblem) (draft : Draft) (ratio ceiling r c : ℕ) (result : Result ProblemData Refusal) → IsDraftOf given draft
    → r ≡ ratio → c ≡ ceiling → AnswersDraft draft r c result → EndsBy given ratio ceiling result
ends_by given draft ratio ceiling r c (Ok problem) is same_ratio same_ceiling answers =
    record {
      draft = draft;
      is_draft = is;
      is_problem = subst (λ n. IsProblemOf draft ratio n problem) same_ceiling (subst (λ n. IsProblemOf draft n c problem) same_ratio answers.1);
    }
ends_by given draft ratio ceiling r c (Err (Fault fault)) is same_ratio same_ceiling answers = record { draft = draft; is_draft = is; is_first = answers }
ends_by given draft ratio ceiling r c (Err (Memory cause)) is same_ratio same_ceiling answers = cc

pub told : (given : GivenProblem) (ratio ceiling : ℕ) (before after : Arrays) (answer : Answer) (status : ℕ) (problem : ProblemData) (outcome : Outcome)
    → misfit_in given ratio ceiling before ≡ 0 → IsGiven given ratio ceiling problem → IsSolved problem outcome → IsRightOutcome outcome
    → Tells problem before after answer status outcome → AnswersSolve given ratio ceiling before after answer status
told given ratio ceiling before after answer status problem outcome fits is solved right tells =
    inr (fits, inl (record { problem = problem; is_given = is; outcome = outcome; is_solved = solved; is_right = right; tells = tells }))

pub faulty : (given : GivenProblem) (ratio ceiling : ℕ) (arrays : Arrays) (answer : Answer) (fault : AnyFault) → misfit_in given ratio ceiling arrays ≡ 0
    → IsAtFault given fault → answer ≡ fault_answer fault → AnswersSolve given ratio ceiling arrays arrays answer 5
faulty given ratio ceiling arrays answer fault fits is same =
    inr (fits, inr (inl (record { is_status = refl; fault = fault; is_fault = is; is_answer = same; same = refl })))

pub is_checked : (given : GivenProblem) (ii : ℕ) (times alternatives numbers : List ℕ) (verdict : Verdict) (status : ℕ) (problem : ProblemData)
    → length times ≡ length alternatives → IsGiven given 1 0 problem → IsJudged problem ii (zip times alternatives) numbers verdict status
    → AnswersCheck given ii times alternatives numbers verdict status
is_checked given ii times alternatives numbers verdict status problem same is judged = inr (same, inl (record { problem = problem; is_given = is; is_judged = judged }))

pub faulty_check : (given : GivenProblem) (ii : ℕ) (times alternatives numbers : List ℕ) (verdict : Verdict) (fault : AnyFault)
    → length times ≡ length alternatives → IsAtFault given fault → verdict ≡ faulty_verdict fault → AnswersCheck given ii times alternatives numbers verdict 5
faulty_check given ii times alternatives numbers verdict fault same is told =
    inr (same, inr (inl (record { is_status = refl; fault = fault; is_fault = is; is_verdict = told })))
