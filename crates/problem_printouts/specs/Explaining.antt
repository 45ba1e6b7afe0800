-- What is printed of the problems of a text as reasons for their intervals.
use Rattle.std.specs.Prelude.{ℕ, codes, List, Result}
use Rattle.settings.specs.Settings.{SettingsData}
use Rattle.problems.specs.Problems.{ProblemData}
use Rattle.problem_reasons.specs.Reasons.{AreReasons}
use Rattle.problem_tables.specs.Data.{FileData, ProblemData as TextProblem}
use Rattle.problem_printouts.specs.Problems.{AnswersProblems, IsProblemIn}
use Rattle.problem_printouts.specs.Told.{Answer, TellsEach, counts_after}
use Rattle.problem_printouts.specs.declared.answers.Answers.{Answers}
use Rattle.problem_faults.specs.declared.fault.ProblemsFault.{ProblemsFault}

-- why a problem of the file has its interval, and whether it has a solution
pub record IsReasonsAnswer (file : FileData) (settings : SettingsData) (problem : TextProblem) (answer : Answer) : Type 0 where
  pub made : ProblemData
  pub is_made : IsProblemIn file settings.ratio settings.ceiling problem made
  pub are_reasons : AreReasons problem.name made answer.met answer.text

-- of each problem, in order, and then `problems P met A failed B`
abbrev pub IsExplainOf : FileData → SettingsData → Answers → Type 0
IsExplainOf file settings told = TellsEach (counts_after (codes "problems ")) (IsReasonsAnswer file settings) file.problems told

abbrev pub AnswersExplain : SettingsData → List ℕ → Result Answers ProblemsFault → Type 0
AnswersExplain settings text result = AnswersProblems (λ file told. IsExplainOf file settings told) text result
