-- What a problem comes to, as JSON.
use Rattle.std.specs.Prelude.{◌≡◌, ℕ, codes, Bool, List, length, Option}
use Rattle.serde_json.specs.Data.{Data, Members, string, object, member, no_members, put}
use Rattle.serde_json.specs.Written.{compact_text}
use Rattle.edges.specs.Edges.{EdgeData}
use Rattle.modulo.specs.declared.outcome.attempts.Culprit.{Culprit}
use Rattle.schedules.specs.Problems.{mii_of}
use Rattle.problems.specs.Problems.{ProblemData}
use Rattle.solutions.specs.declared.solving.outcome.Cause.{Cause}
use Rattle.solutions.specs.declared.solving.outcome.Outcome.{Outcome}
use Rattle.solutions.specs.declared.solving.outcome.Outcome.TheVariants.{Met, Failed}
use Rattle.solutions.specs.Failures.{IsEvidence}
use Rattle.solutions.specs.Outcomes.{IsSolved, last_of}
use Rattle.solutions.specs.Runs.{IsRightOutcome}
use Rattle.solutions.specs.Solutions.{SolutionData}
use Rattle.outcome_text.specs.Answers.{is_met}
use Rattle.outcome_text.specs.Notes.{AreFullest, IsCircuitOf}
use Rattle.solution_json.specs.Bounds.{circuit_value}
use Rattle.solution_json.specs.Failures.{culprit_value}
use Rattle.solution_text.specs.Causes.{cause_word}
use Rattle.solution_json.specs.Parts.{count_value, unit_names}
use Rattle.solution_json.specs.Solutions.{solution_object}

-- what is told of each problem: its name, how many operations there are, the two lower bounds of the interval and the greater one, and
-- what the two are due to
unfoldable pub head_members : List ℕ → ProblemData → List EdgeData → List ℕ → Members
head_members name problem circuit units =
    member (codes "circuit") (circuit_value problem.draft circuit)
    (member (codes "full") (unit_names problem.draft units)
    (member (codes "mii") (count_value (mii_of problem.scheduling))
    (member (codes "name") (string name)
    (member (codes "operations") (count_value (length problem.scheduling.operations))
    (member (codes "recurrences") (count_value problem.scheduling.recurrences)
    (member (codes "resources") (count_value problem.scheduling.resources) no_members))))))

-- a problem that is solved: the solution besides
unfoldable pub met_object : List ℕ → ProblemData → List EdgeData → List ℕ → SolutionData → Data
met_object name problem circuit units s = object (put (codes "solution") (solution_object s) (head_members name problem circuit units))

-- a problem that has no solution: the last interval that is tried, and why it gives none
unfoldable pub failed_object : List ℕ → ProblemData → List EdgeData → List ℕ → Cause → Option Culprit → Data
failed_object name problem circuit units cause found =
    object (put (codes "culprit") (culprit_value problem.draft cause found)
    (put (codes "cause") (string (cause_word cause))
    (put (codes "failed_to") (count_value (last_of problem)) (head_members name problem circuit units))))

-- what is told of an outcome of a problem; of one that has no solution with the culprits of the cause
abbrev pub IsObjectOf : List ℕ → ProblemData → List EdgeData → List ℕ → Outcome → Data → Type 0
IsObjectOf name problem circuit units (Met s) told = told ≡ met_object name problem circuit units s
IsObjectOf name problem circuit units (Failed cause) told =
    (found : Option Culprit) × IsEvidence problem (last_of problem) cause found × (told ≡ failed_object name problem circuit units cause found)

-- an outcome of a problem as JSON without blanks, with what the bounds of the problem are due to
pub record IsJsonOf (name : List ℕ) (problem : ProblemData) (outcome : Outcome) (answer : List ℕ) : Type 0 where
  pub circuit : List EdgeData
  pub is_circuit : IsCircuitOf problem.scheduling circuit
  pub units : List ℕ
  pub are_fullest : AreFullest problem units
  pub told : Data
  pub is_object : IsObjectOf name problem circuit units outcome told
  pub is_text : answer ≡ compact_text told

-- what a problem comes to, as JSON, and whether it is solved
pub record IsOutcomeJson (name : List ℕ) (problem : ProblemData) (met : Bool) (answer : List ℕ) : Type 0 where
  pub outcome : Outcome
  pub is_solved : IsSolved problem outcome
  pub is_right : IsRightOutcome outcome
  pub same_met : met ≡ is_met outcome
  pub is_told : IsJsonOf name problem outcome answer
