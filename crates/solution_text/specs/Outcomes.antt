-- The text of whatever a problem gives.
use Rattle.std.specs.Prelude.{◌≡◌, ℕ, List, Option}
use Rattle.modulo.specs.declared.outcome.attempts.Culprit.{Culprit}
use Rattle.problems.specs.Problems.{ProblemData}
use Rattle.solutions.specs.declared.solving.outcome.Cause.{Cause}
use Rattle.solutions.specs.declared.solving.outcome.Outcome.{Outcome}
use Rattle.solutions.specs.declared.solving.outcome.Outcome.TheVariants.{Met, Failed}
use Rattle.solutions.specs.Failures.{IsEvidence}
use Rattle.solutions.specs.Outcomes.{last_of}
use Rattle.solution_text.specs.Texts.{failed_text, solution_text}

-- the text of a problem that has no solution, with the culprits of the cause
abbrev pub IsFailedText : List ℕ → List ℕ → ProblemData → Cause → List ℕ → Type 0
IsFailedText name notes problem cause text = (found : Option Culprit) × IsEvidence problem (last_of problem) cause found × (text ≡ failed_text name notes problem cause found)

-- the text of what a problem gives
abbrev pub IsOutcomeText : List ℕ → List ℕ → ProblemData → Outcome → List ℕ → Type 0
IsOutcomeText name notes problem (Met s) text = text ≡ solution_text name notes s
IsOutcomeText name notes problem (Failed cause) text = IsFailedText name notes problem cause text
