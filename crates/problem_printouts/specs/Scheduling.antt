-- What is printed of the problems of a text as graphs with their schedules.
use Rattle.std.specs.Prelude.{◌≡◌, ℕ, List, [], Result}
use Rattle.settings.specs.Settings.{SettingsData}
use Rattle.problems.specs.Problems.{ProblemData}
use Rattle.problem_graphs.specs.Scheduled.{IsScheduledText}
use Rattle.problem_tables.specs.Data.{FileData, ProblemData as TextProblem}
use Rattle.solutions.specs.declared.solving.outcome.Outcome.{Outcome}
use Rattle.solutions.specs.Outcomes.{IsSolved}
use Rattle.outcome_text.specs.Answers.{is_met}
use Rattle.problem_printouts.specs.Problems.{AnswersProblems, IsProblemIn}
use Rattle.problem_printouts.specs.Told.{Answer, TellsEach}
use Rattle.problem_printouts.specs.declared.answers.Answers.{Answers}
use Rattle.problem_faults.specs.declared.fault.ProblemsFault.{ProblemsFault}

-- the graph of a problem of the file with what it comes to, and whether it has a solution
pub record IsScheduledAnswer (file : FileData) (settings : SettingsData) (problem : TextProblem) (answer : Answer) : Type 0 where
  pub made : ProblemData
  pub is_made : IsProblemIn file settings.ratio settings.ceiling problem made
  pub outcome : Outcome
  pub is_outcome : IsSolved made outcome
  pub is_text : IsScheduledText problem.name made outcome answer.text
  pub same_met : answer.met ≡ is_met outcome

-- of each problem, in order; nothing comes last
abbrev pub IsScheduledOf : FileData → SettingsData → Answers → Type 0
IsScheduledOf file settings told = TellsEach (λ answers. []) (IsScheduledAnswer file settings) file.problems told

abbrev pub AnswersScheduled : SettingsData → List ℕ → Result Answers ProblemsFault → Type 0
AnswersScheduled settings text result = AnswersProblems (λ file told. IsScheduledOf file settings told) text result
