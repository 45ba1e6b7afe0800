-- What a problem comes to, as text.
use Rattle.std.specs.Prelude.{◌≡◌, ℕ, Bool, true, false, List}
use Rattle.problems.specs.Problems.{ProblemData}
use Rattle.solutions.specs.declared.solving.outcome.Outcome.{Outcome}
use Rattle.solutions.specs.declared.solving.outcome.Outcome.TheVariants.{Met, Failed}
use Rattle.solutions.specs.Outcomes.{IsSolved}
use Rattle.solutions.specs.Runs.{IsRightOutcome}
use Rattle.solution_text.specs.Outcomes.{IsOutcomeText as IsTextOf}
use Rattle.outcome_text.specs.Notes.{AreNotes}

-- whether an outcome is a solution
abbrev pub is_met : Outcome → Bool
is_met (Met s) = true
is_met (Failed cause) = false

-- the outcome of a problem as text, with what its bounds are due to, and whether it is a solution
pub record IsOutcomeText (name : List ℕ) (problem : ProblemData) (met : Bool) (answer : List ℕ) : Type 0 where
  pub outcome : Outcome
  pub is_solved : IsSolved problem outcome
  pub is_right : IsRightOutcome outcome
  pub same_met : met ≡ is_met outcome
  pub notes : List ℕ
  pub are_notes : AreNotes problem notes
  pub is_text : IsTextOf name notes problem outcome answer
