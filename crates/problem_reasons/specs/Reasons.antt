-- Why a problem has its interval, as text.
use Rattle.std.specs.Prelude.{◌≡◌, ℕ, Bool, List, [], ◌++◌}
use Rattle.problems.specs.Problems.{ProblemData}
use Rattle.solutions.specs.declared.solving.outcome.Outcome.{Outcome}
use Rattle.solution_text.specs.Outcomes.{IsOutcomeText}
use Rattle.outcome_text.specs.Answers.{is_met}
use Rattle.unit_sets.specs.declared.fullest.UnitSet.{UnitSet}
use Rattle.unit_sets.specs.Fullest.{IsFullest}
use Rattle.problem_graphs.specs.Heads.{problem_line}
use Rattle.problem_reasons.specs.CircuitTexts.{IsCircuitText}
use Rattle.problem_reasons.specs.Sets.{set_line}
use Rattle.problem_reasons.specs.Tries.{AreTries}
use Rattle.problem_reasons.specs.Units.{AreUnitLines}

-- the line of a problem with its bounds, the lines of the units and of the fullest set of them, a circuit that the recurrence-constrained
-- bound is due to, what was tried, and what the problem comes to; with whether that is a solution
pub record AreReasons (name : List ℕ) (problem : ProblemData) (met : Bool) (text : List ℕ) : Type 0 where
  pub units : List ℕ
  pub are_units : AreUnitLines problem units
  pub set : UnitSet
  pub is_fullest : IsFullest problem.scheduling.operations set
  pub circuit : List ℕ
  pub is_circuit : IsCircuitText problem circuit
  pub outcome : Outcome
  pub tries : List ℕ
  pub are_tries : AreTries problem set.need outcome tries
  pub answer : List ℕ
  pub is_answer : IsOutcomeText name [] problem outcome answer
  pub same_met : met ≡ is_met outcome
  pub is_text : text ≡ ((((problem_line name problem ++ units) ++ set_line problem.draft set) ++ circuit) ++ tries) ++ answer
