-- What a check does for its caller.
use Rattle.std.specs.Prelude.{◌≡◌, ◌≢◌, ◌⊎◌, ℕ, List, length}
use Rattle.std.specs.List.{zip}
use Rattle.problems.specs.declared.fault.Fault.{Fault as AnyFault}
use Rattle.problems.specs.Problems.{ProblemData}
use Rattle.solutions.specs.declared.judging.broken.Broken.{Broken}
use Rattle.solutions.specs.Breaks.{IsFirstBroken}
use Rattle.solutions.specs.Solutions.{IsLawfulSolution, listed}
use Rattle.capi.specs.declared.given.Problem.{Problem as GivenProblem}
use Rattle.capi.specs.declared.verdict.Verdict.{Verdict}
use Rattle.capi.specs.Calls.{IsAtFault, IsGiven}
use Rattle.capi.specs.Verdicts.{broken_verdict, faulty_verdict, lawful_verdict, misfit_verdict, silence}

-- the places and numbers are a solution
pub record IsFoundLawful (problem : ProblemData) (ii : ℕ) (places : List (ℕ × ℕ)) (numbers : List ℕ) (verdict : Verdict) (status : ℕ) : Type 0 where
  pub is_status : status ≡ 0
  pub is_lawful : IsLawfulSolution (listed problem ii places numbers)
  pub is_verdict : verdict ≡ lawful_verdict (listed problem ii places numbers)

-- they are none, and this is what they break first
pub record IsFoundBroken (problem : ProblemData) (ii : ℕ) (places : List (ℕ × ℕ)) (numbers : List ℕ) (verdict : Verdict) (status : ℕ) : Type 0 where
  pub is_status : status ≡ 1
  pub broken : Broken
  pub is_first : IsFirstBroken problem ii places numbers broken
  pub is_verdict : verdict ≡ broken_verdict broken

abbrev pub IsJudged : ProblemData → ℕ → List (ℕ × ℕ) → List ℕ → Verdict → ℕ → Type 0
IsJudged problem ii places numbers verdict status =
    IsFoundLawful problem ii places numbers verdict status ⊎ IsFoundBroken problem ii places numbers verdict status

-- the problem that is given is that of its draft, for which the least ratio and ceiling stand: no check depends on them
pub record IsChecked (given : GivenProblem) (ii : ℕ) (places : List (ℕ × ℕ)) (numbers : List ℕ) (verdict : Verdict) (status : ℕ) : Type 0 where
  pub problem : ProblemData
  pub is_given : IsGiven given 1 0 problem
  pub is_judged : IsJudged problem ii places numbers verdict status

-- the problem is at fault
pub record IsFaultyCheck (given : GivenProblem) (verdict : Verdict) (status : ℕ) : Type 0 where
  pub is_status : status ≡ 5
  pub fault : AnyFault
  pub is_fault : IsAtFault given fault
  pub is_verdict : verdict ≡ faulty_verdict fault

-- as many times as alternatives, or a misfit; then the judgement or the first fault; memory may run out with either
abbrev pub AnswersCheck : GivenProblem → ℕ → List ℕ → List ℕ → List ℕ → Verdict → ℕ → Type 0
AnswersCheck given ii times alternatives numbers verdict status =
    ((length times ≢ length alternatives) × (status ≡ 2) × (verdict ≡ misfit_verdict))
    ⊎ ((length times ≡ length alternatives)
    × (IsChecked given ii (zip times alternatives) numbers verdict status
    ⊎ (IsFaultyCheck given verdict status
    ⊎ ((status ≡ 7) × (verdict ≡ silence)))))
