-- Answers for texts from those of their parts.
use Rattle.std.proofs.Common.{◌≡◌, ◌≢◌, ℕ, List, sym, subst, ap, ◌∙◌}
use Rattle.std.specs.Prelude.{Result, Ok, Err, ◌⊎◌}
use Rattle.std.proofs.Common.{inl, inr}
use Rattle.settings.specs.declared.format.Format.{Format}
use Rattle.settings.specs.Settings.{SettingsData}
use Rattle.problem_tables.specs.Data.{FileData}
use Rattle.problem_faults.specs.declared.refused_problems.Wrong.{Wrong as ProblemWrong}
use Rattle.problem_faults.specs.declared.refused_problems.Wrong.TheVariants as problem_wrong
use Rattle.problem_reader.specs.Files.{file_in_text, out_of_memory}
use Rattle.problem_faults.specs.declared.refused_problems.TextFault.{TextFault}
use Rattle.solution_reader.specs.Data.{SolutionData as TextSolution}
use Rattle.solution_reader.specs.Meaning.{solutions_in_text}
use Rattle.problem_printouts.specs.declared.answers.Answers.{Answers}
use Rattle.problem_faults.specs.declared.fault.ProblemsFault.{ProblemsFault}
use Rattle.problem_faults.specs.declared.fault.ProblemsFault.TheVariants.{Problems, Solutions, Memory}
use Rattle.problem_faults.specs.Faults.{of_problem_wrong}
use Rattle.problem_printouts.specs.Solving.{AnswersSolve, IsSolveIn}
use Rattle.problem_printouts.specs.Judging.{AnswersCheck, IsFaultOf}
use Rattle.problem_printouts.specs.inner.Judged.{AnswersLists}
use Rattle.problem_printouts.proofs.Strangers.{unknown-is-no-memory}

-- the text of problems is refused

-- this is so of what the fault is told as
record Refuses (F : Result Answers ProblemsFault → Type 0) (text : List ℕ) : Type 0 where
  pub memory : F (Err Memory)
  pub problems : (fault : TextFault) → file_in_text text ≡ Err fault → fault.what ≢ problem_wrong.Memory → F (Err (Problems fault))

is-fault : (text : List ℕ) (fault : TextFault) → (Err fault ≡ file_in_text text) ⊎ (fault ≡ out_of_memory) → fault.what ≢ problem_wrong.Memory → file_in_text text ≡ Err fault
is-fault text fault (inl is) other = sym is
is-fault text fault (inr is) other = absurd (other (ap (λ (f : TextFault). f.what) is))

refused-at : (F : Result Answers ProblemsFault → Type 0) (text : List ℕ) (fault : TextFault) (what : ProblemWrong) → fault.what ≡ what → Refuses F text
    → (Err fault ≡ file_in_text text) ⊎ (fault ≡ out_of_memory) → F (Err (of_problem_wrong what fault))
refused-at F text fault problem_wrong.Memory is so a = so.memory
refused-at F text fault what is so a =
    let other : fault.what ≢ problem_wrong.Memory = λ bad. let never : what ≡ problem_wrong.Memory = sym is ∙ bad in cc in
    so.problems fault (is-fault text fault a other) other

-- the problems are solved

pub solve_told : (settings : SettingsData) (format : Format) (text : List ℕ) (file : FileData) (told : Answers) → Ok file ≡ file_in_text text → IsSolveIn format file settings told
    → AnswersSolve settings format text (Ok told)
solve_told settings format text file told is a = (file, sym is, a)

-- the text of solutions is refused

-- both mean something

pub check_answered : (problems solutions : List ℕ) (file : FileData) (list : List TextSolution) (r : Result Answers ProblemsFault) → Ok file ≡ file_in_text problems → Ok list ≡ solutions_in_text solutions
    → AnswersLists file list r → AnswersCheck problems solutions r
check_answered problems solutions file list (Ok told) is_file is_list a = record { file = file; list = list; is_file = sym is_file; is_list = sym is_list; all_known = a.all_known; is_text = a.is_text }
check_answered problems solutions file list (Err (Problems fault)) is_file is_list a = absurd a
check_answered problems solutions file list (Err (Solutions fault)) is_file is_list a = record {
  file = file;
  is_file = sym is_file;
  is_fault = subst (λ meaning. IsFaultOf file meaning fault) is_list a;
  of_text = unknown-is-no-memory file list fault a;
}
check_answered problems solutions file list (Err Memory) is_file is_list a = tt
