-- What a check says of lists, and of a list of solutions.
use Rattle.std.specs.Prelude.{◌≡◌, ℕ, List, None, Some, Result, Ok, Err}
use Rattle.problems.specs.Problems.{ProblemData}
use Rattle.problem_tables.specs.Data.{FileData}
use Rattle.solution_reader.specs.Data.{SolutionData as TextSolution}
use Rattle.problem_printouts.specs.Judging.{IsChecked, IsCheckText, first_unknown}
use Rattle.problem_printouts.specs.Told.{Answer}
use Rattle.problem_printouts.specs.declared.answers.Answers.{Answers}
use Rattle.problem_faults.specs.declared.fault.ProblemsFault.{ProblemsFault}
use Rattle.problem_faults.specs.declared.fault.ProblemsFault.TheVariants.{Problems, Solutions, Memory}

-- the answer is what a check says of these lists
abbrev pub IsCheckedLists : ProblemData → List ℕ → ℕ → List (ℕ × ℕ) → List ℕ → Answer → Type 0
IsCheckedLists made name ii places numbers answer = IsChecked made name ii places numbers answer.met answer.text

-- no name is unknown, and these are the verdicts
pub record ChecksLists (file : FileData) (list : List TextSolution) (told : Answers) : Type 0 where
  pub all_known : first_unknown file list ≡ None
  pub is_text : IsCheckText file list told

-- what is answered for the problems of a file and a list of solutions
abbrev pub AnswersLists : FileData → List TextSolution → Result Answers ProblemsFault → Type 0
AnswersLists file list (Ok told) = ChecksLists file list told
AnswersLists file list (Err (Problems fault)) = ⊥
AnswersLists file list (Err (Solutions fault)) = first_unknown file list ≡ Some fault
AnswersLists file list (Err Memory) = Unit {0}
