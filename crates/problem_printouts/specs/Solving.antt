-- What is printed where the problems of a text are solved.
use Rattle.std.specs.Prelude.{◌≡◌, ℕ, Bool, codes, List, ◌++◌, Result}
use Rattle.std.specs.List.{AllZip, join_by}
use Rattle.settings.specs.declared.format.Format.{Format}
use Rattle.settings.specs.declared.format.Format.TheVariants.{Text, Json}
use Rattle.settings.specs.Settings.{SettingsData}
use Rattle.problems.specs.Problems.{ProblemData}
use Rattle.problem_tables.specs.Data.{FileData, ProblemData as TextProblem}
use Rattle.writing.specs.Words.{told}
use Rattle.outcome_text.specs.Answers.{IsOutcomeText}
use Rattle.solution_json.specs.Outcomes.{IsOutcomeJson}
use Rattle.problem_printouts.specs.Problems.{AnswersProblems, IsProblemIn}
use Rattle.problem_printouts.specs.Told.{Answer, TellsEach, counts_after, failed_in, met_in}
use Rattle.problem_printouts.specs.declared.answers.Answers.{Answers}
use Rattle.problem_faults.specs.declared.fault.ProblemsFault.{ProblemsFault}

-- what a problem comes to in this format, and whether it is solved
abbrev pub IsOutcomeIn : Format → List ℕ → ProblemData → Bool → List ℕ → Type 0
IsOutcomeIn Text name problem met text = IsOutcomeText name problem met text
IsOutcomeIn Json name problem met text = IsOutcomeJson name problem met text

-- what a problem of the file comes to in this format
pub record IsAnswer (file : FileData) (settings : SettingsData) (format : Format) (problem : TextProblem) (answer : Answer) : Type 0 where
  pub made : ProblemData
  pub is_made : IsProblemIn file settings.ratio settings.ceiling problem made
  pub is_text : IsOutcomeIn format problem.name made answer.met answer.text

-- what each problem of the file comes to, in order
abbrev pub IsSolveText : FileData → SettingsData → Answers → Type 0
IsSolveText file settings answers = TellsEach (counts_after (codes "# problems ")) (IsAnswer file settings Text) file.problems answers

-- `{"failed":F,"met":M,"problems":[P,P,..],"version":1}` and a line feed: how many problems have failed and are met, and what each comes
-- to, with a comma between two
abbrev pub document_of : List Answer → List ℕ
document_of answers =
    ((told (codes "{\"failed\":") (failed_in answers) ++ told (codes ",\"met\":") (met_in answers)) ++ codes ",\"problems\":[")
    ++ (join_by (λ (answer : Answer). answer.text) (codes ",") answers ++ codes "],\"version\":1}\n")

-- the same as one JSON document
pub record IsSolveDocument (file : FileData) (settings : SettingsData) (answers : Answers) : Type 0 where
  pub list : List Answer
  pub each : AllZip (IsAnswer file settings Json) file.problems list
  pub is_text : answers.text.items ≡ document_of list
  pub same_met : answers.met ≡ met_in list
  pub same_failed : answers.failed ≡ failed_in list

abbrev pub IsSolveIn : Format → FileData → SettingsData → Answers → Type 0
IsSolveIn Text file settings answers = IsSolveText file settings answers
IsSolveIn Json file settings answers = IsSolveDocument file settings answers

-- what is answered for a text of problems: its fault, and else what they come to in this format, unless memory runs out
abbrev pub AnswersSolve : SettingsData → Format → List ℕ → Result Answers ProblemsFault → Type 0
AnswersSolve settings format text result = AnswersProblems (λ file answers. IsSolveIn format file settings answers) text result
