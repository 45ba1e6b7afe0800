-- What is printed where solutions of the problems of a text are checked.
use Rattle.std.specs.Prelude.{◌≡◌, ◌≢◌, ℕ, codes, Bool, true, false, List, [], ◌∷◌, map, Option, Some, None, option_map, Result, Ok, Err}
use Rattle.std.specs.Option.{option_or}
use Rattle.problems.specs.Problems.{ProblemData}
use Rattle.problem_tables.specs.Data.{FileData, ProblemData as TextProblem}
use Rattle.problem_faults.specs.declared.refused_problems.Wrong.TheVariants as problem_wrong
use Rattle.problem_reader.specs.Files.{file_in_text, problem_at}
use Rattle.solution_reader.specs.Data.{SolutionData as TextSolution, has_name, number_of_name, solution_names}
use Rattle.solution_reader.specs.Meaning.{solutions_in_text}
use Rattle.solution_reader.specs.Resolved.{earlier, first_op_failing, first_value_failing, numbers_told, places_told, solution_at, unknown_at}
use Rattle.problem_faults.specs.declared.refused_solutions.Part.TheVariants as part
use Rattle.problem_faults.specs.declared.refused_solutions.SolutionFault.{SolutionFault}
use Rattle.problem_faults.specs.declared.refused_solutions.Wrong.TheVariants as solution_wrong
use Rattle.solutions.specs.Breaks.{IsFirstBroken}
use Rattle.solutions.specs.Solutions.{IsLawfulSolution, listed}
use Rattle.solutions.specs.declared.judging.broken.Broken.{Broken}
use Rattle.solution_text.specs.Verdicts.{broken_line, broken_text, missing_text, ok_line}
use Rattle.solution_text.specs.declared.verdicts.Missing.TheVariants.{Solution as NoSolution, Time as NoTime, Number as NoNumber}
use Rattle.problem_printouts.specs.Problems.{IsProblemIn}
use Rattle.problem_printouts.specs.Told.{Answer, TellsEach, counts_after}
use Rattle.problem_printouts.specs.declared.answers.Answers.{Answers}
use Rattle.problem_faults.specs.declared.fault.ProblemsFault.{ProblemsFault}
use Rattle.problem_faults.specs.declared.fault.ProblemsFault.TheVariants.{Problems, Solutions, Memory}

-- names that are none of the problems'

abbrev pub problem_names : FileData → List (List ℕ)
problem_names file = map (λ (p : TextProblem). p.name) file.problems

-- the first line of a solution that names no operation, or no value, of a problem
abbrev pub unknown_part : TextSolution → TextProblem → Option SolutionFault
unknown_part s problem = earlier (first_op_failing (has_name problem.operation_names) s.ops) (first_value_failing (has_name problem.value_names) s.values)

-- the first name of a solution that is unknown: its own, if no problem has it, and else that of an operation or a value of its problem
abbrev pub unknown_by : FileData → TextSolution → Option ℕ → Option SolutionFault
unknown_by file s None = Some (unknown_at s.head.line s.head.name part.Solutions)
unknown_by file s (Some number) = unknown_part s (problem_at file number)

abbrev pub unknown_of : FileData → TextSolution → Option SolutionFault
unknown_of file s = unknown_by file s (number_of_name (problem_names file) s.head.name.bytes)

-- .. of solutions, in the order of their text
abbrev pub first_unknown : FileData → List TextSolution → Option SolutionFault
first_unknown file [] = None
first_unknown file (s ∷ list) = option_or (unknown_of file s) (first_unknown file list)

-- verdicts

-- the answer is that the problem has no solution, for this
pub record IsRefused (name what : List ℕ) (answer : Answer) : Type 0 where
  pub is_text : answer.text ≡ broken_line name what
  pub not_met : answer.met ≡ false

-- the lists are a lawful solution
pub record IsAccepted (made : ProblemData) (name : List ℕ) (ii : ℕ) (places : List (ℕ × ℕ)) (numbers : List ℕ) (text : List ℕ) : Type 0 where
  pub is_lawful : IsLawfulSolution (listed made ii places numbers)
  pub is_text : text ≡ ok_line name (listed made ii places numbers)

-- the lists are none, for what they break first
pub record IsBroken (made : ProblemData) (name : List ℕ) (ii : ℕ) (places : List (ℕ × ℕ)) (numbers : List ℕ) (text : List ℕ) : Type 0 where
  pub broken : Broken
  pub is_first : IsFirstBroken made ii places numbers broken
  pub is_text : text ≡ broken_line name (broken_text made.draft ii broken)

abbrev pub IsChecked : ProblemData → List ℕ → ℕ → List (ℕ × ℕ) → List ℕ → Bool → List ℕ → Type 0
IsChecked made name ii places numbers true text = IsAccepted made name ii places numbers text
IsChecked made name ii places numbers false text = IsBroken made name ii places numbers text

-- by the numbers that are told, or the first value that lacks one
abbrev pub IsNumbered : ProblemData → List ℕ → ℕ → List (ℕ × ℕ) → Result (List ℕ) ℕ → Answer → Type 0
IsNumbered made name ii places (Err value) answer = IsRefused name (missing_text made.draft (NoNumber value)) answer
IsNumbered made name ii places (Ok numbers) answer = IsChecked made name ii places numbers answer.met answer.text

-- by the places that are told, or the first operation that lacks one
abbrev pub IsPlaced : ProblemData → List ℕ → TextSolution → Result (List (ℕ × ℕ)) ℕ → Answer → Type 0
IsPlaced made name s (Err op) answer = IsRefused name (missing_text made.draft (NoTime op)) answer
IsPlaced made name s (Ok places) answer = IsNumbered made name s.head.ii places (numbers_told s made.draft) answer

-- by the solution of the problem's name, if there is one
abbrev pub IsJudged : ProblemData → List ℕ → Option TextSolution → Answer → Type 0
IsJudged made name None answer = IsRefused name (missing_text made.draft NoSolution) answer
IsJudged made name (Some s) answer = IsPlaced made name s (places_told s made.draft) answer

abbrev pub solution_named : List TextSolution → List ℕ → Option TextSolution
solution_named list name = option_map (solution_at list) (number_of_name (solution_names list) name)

-- what is lawful depends on neither the budget ratio nor the ceiling
pub record IsVerdict (file : FileData) (list : List TextSolution) (problem : TextProblem) (answer : Answer) : Type 0 where
  pub made : ProblemData
  pub is_made : IsProblemIn file 6 32 problem made
  pub is_judged : IsJudged made problem.name (solution_named list problem.name) answer

-- the verdict on each problem of the file, in order
abbrev pub IsCheckText : FileData → List TextSolution → Answers → Type 0
IsCheckText file list told = TellsEach (counts_after (codes "# problems ")) (IsVerdict file list) file.problems told

-- what is answered for a text of problems and one of their solutions

-- both texts mean something, no name is unknown, and these are the verdicts
pub record Checks (problems solutions : List ℕ) (told : Answers) : Type 0 where
  pub file : FileData
  pub list : List TextSolution
  pub is_file : file_in_text problems ≡ Ok file
  pub is_list : solutions_in_text solutions ≡ Ok list
  pub all_known : first_unknown file list ≡ None
  pub is_text : IsCheckText file list told

-- the text of solutions has this fault, or this is the first name of it that is unknown
abbrev pub IsFaultOf : FileData → Result (List TextSolution) SolutionFault → SolutionFault → Type 0
IsFaultOf file (Err first) fault = first ≡ fault
IsFaultOf file (Ok list) fault = first_unknown file list ≡ Some fault

-- the text of problems means something, and that of solutions is refused for this
pub record RefusesSolutions (problems solutions : List ℕ) (fault : SolutionFault) : Type 0 where
  pub file : FileData
  pub is_file : file_in_text problems ≡ Ok file
  pub is_fault : IsFaultOf file (solutions_in_text solutions) fault
  pub of_text : fault.what ≢ solution_wrong.Memory

-- the fault of the text of problems comes first, and then that of the text of solutions; else the verdicts, unless memory runs out
abbrev pub AnswersCheck : List ℕ → List ℕ → Result Answers ProblemsFault → Type 0
AnswersCheck problems solutions (Ok told) = Checks problems solutions told
AnswersCheck problems solutions (Err (Problems fault)) = (file_in_text problems ≡ Err fault) × (fault.what ≢ problem_wrong.Memory)
AnswersCheck problems solutions (Err (Solutions fault)) = RefusesSolutions problems solutions fault
AnswersCheck problems solutions (Err Memory) = Unit {0}
