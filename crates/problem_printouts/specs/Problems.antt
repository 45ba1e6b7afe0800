-- The problems of a file.
use Rattle.std.specs.Prelude.{◌≡◌, ◌≢◌, ℕ, List, Result, Ok, Err}
use Rattle.problems.specs.declared.draft.Draft.{Draft}
use Rattle.problems.specs.Problems.{ProblemData, IsProblemOf}
use Rattle.problem_tables.specs.Data.{FileData, ProblemData as TextProblem}
use Rattle.problem_faults.specs.declared.refused_problems.Wrong.TheVariants as wrong
use Rattle.problem_reader.specs.Files.{IsDraftOf, file_in_text, machine_at}
use Rattle.problem_printouts.specs.declared.answers.Answers.{Answers}
use Rattle.problem_faults.specs.declared.fault.ProblemsFault.{ProblemsFault}
use Rattle.problem_faults.specs.declared.fault.ProblemsFault.TheVariants.{Problems, Solutions, Memory}

-- a problem that is made of the draft of a problem of the file, with this budget ratio and ceiling
pub record IsProblemIn (file : FileData) (ratio ceiling : ℕ) (problem : TextProblem) (made : ProblemData) : Type 0 where
  pub draft : Draft
  pub is_draft : IsDraftOf (machine_at file problem.machine) problem draft
  pub is_made : IsProblemOf draft ratio ceiling made

-- what is answered for a text of problems: its fault, and else what is right of its file, unless memory runs out
abbrev pub AnswersProblems : (FileData → Answers → Type 0) → List ℕ → Result Answers ProblemsFault → Type 0
AnswersProblems is_right text (Ok told) = (file : FileData) × (file_in_text text ≡ Ok file) × is_right file told
AnswersProblems is_right text (Err (Problems fault)) = (file_in_text text ≡ Err fault) × (fault.what ≢ wrong.Memory)
AnswersProblems is_right text (Err (Solutions fault)) = ⊥
AnswersProblems is_right text (Err Memory) = Unit {0}
