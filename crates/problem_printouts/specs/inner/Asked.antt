-- What may be asked of the problems of a file.
use Rattle.std.specs.Prelude.{List}
use Rattle.settings.specs.declared.format.Format.TheVariants.{Text, Json}
use Rattle.settings.specs.Settings.{SettingsData}
use Rattle.problem_graphs.specs.Dot.{IsDotText}
use Rattle.problem_graphs.specs.Edges.{IsEdgesText}
use Rattle.problem_tables.specs.Data.{FileData, ProblemData as TextProblem}
use Rattle.solution_reader.specs.Data.{SolutionData as TextSolution}
use Rattle.problem_printouts.specs.Explaining.{IsReasonsAnswer}
use Rattle.problem_printouts.specs.Graphing.{IsGraphAnswer}
use Rattle.problem_printouts.specs.Judging.{IsVerdict}
use Rattle.problem_printouts.specs.Scheduling.{IsScheduledAnswer}
use Rattle.problem_printouts.specs.Solving.{IsAnswer}
use Rattle.problem_printouts.specs.Told.{Answer}
use Rattle.problem_printouts.specs.inner.Listed.{IsAfterComma}

pub data Question : Type 0 where
  Solve : SettingsData → Question
  Document : SettingsData → Question
  Check : List TextSolution → Question
  Edges : Question
  Draw : Question
  Explain : SettingsData → Question
  DrawScheduled : SettingsData → Question

-- a question about the problems of a file
pub record Asked : Type 0 where
  pub file : FileData
  pub question : Question

abbrev pub IsAnswerTo : FileData → Question → TextProblem → Answer → Type 0
IsAnswerTo file (Solve settings) problem answer = IsAnswer file settings Text problem answer
IsAnswerTo file (Document settings) problem answer = IsAfterComma (IsAnswer file settings Json problem) answer
IsAnswerTo file (Check list) problem answer = IsVerdict file list problem answer
IsAnswerTo file Edges problem answer = IsGraphAnswer IsEdgesText file problem answer
IsAnswerTo file Draw problem answer = IsGraphAnswer IsDotText file problem answer
IsAnswerTo file (Explain settings) problem answer = IsReasonsAnswer file settings problem answer
IsAnswerTo file (DrawScheduled settings) problem answer = IsScheduledAnswer file settings problem answer

-- the answers to a question
abbrev pub Answering : Asked → TextProblem → Answer → Type 0
Answering asked problem answer = IsAnswerTo asked.file asked.question problem answer
