-- What is printed of the problems of a text as lines of operations and edges, and as graphs.
use Rattle.std.specs.Prelude.{◌≡◌, ℕ, true, codes, List, [], ◌++◌, length, Result}
use Rattle.problems.specs.Problems.{ProblemData}
use Rattle.problem_graphs.specs.Dot.{IsDotText}
use Rattle.problem_graphs.specs.Edges.{IsEdgesText}
use Rattle.problem_tables.specs.Data.{FileData, ProblemData as TextProblem}
use Rattle.writing.specs.Words.{told as words_told}
use Rattle.problem_printouts.specs.Problems.{AnswersProblems, IsProblemIn}
use Rattle.problem_printouts.specs.Told.{Answer, TellsEach}
use Rattle.problem_printouts.specs.declared.answers.Answers.{Answers}
use Rattle.problem_faults.specs.declared.fault.ProblemsFault.{ProblemsFault}

-- neither the budget ratio nor the ceiling changes what is told; each problem is met
pub record IsGraphAnswer (is_part : List ℕ → ProblemData → List ℕ → Type 0) (file : FileData) (problem : TextProblem) (answer : Answer) : Type 0 where
  pub made : ProblemData
  pub is_made : IsProblemIn file 6 32 problem made
  pub is_text : is_part problem.name made answer.text
  pub is_met : answer.met ≡ true

-- `problems P`
abbrev pub count_line : List Answer → List ℕ
count_line answers = words_told (codes "problems ") (length answers) ++ codes "\n"

abbrev pub IsEdgesOf : FileData → Answers → Type 0
IsEdgesOf file told = TellsEach count_line (IsGraphAnswer IsEdgesText file) file.problems told

-- nothing comes last
abbrev pub IsDotOf : FileData → Answers → Type 0
IsDotOf file told = TellsEach (λ answers. []) (IsGraphAnswer IsDotText file) file.problems told

abbrev pub AnswersEdges : List ℕ → Result Answers ProblemsFault → Type 0
AnswersEdges text result = AnswersProblems IsEdgesOf text result

abbrev pub AnswersDot : List ℕ → Result Answers ProblemsFault → Type 0
AnswersDot text result = AnswersProblems IsDotOf text result
