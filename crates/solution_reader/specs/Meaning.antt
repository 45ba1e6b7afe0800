-- What a text of solutions means: its solutions, or the first line at fault with its first fault.
use Rattle.std.specs.Prelude.{◌≡◌, ℕ, ◌+◌, nat_lt, is_some, if◌then◌else◌, List, [], ◌∷◌, ◌++◌, length, map, Option, Some, None, Result, Ok, Err}
use Rattle.loop_lines.specs.Words.{lines_of}
use Rattle.problem_lines.specs.SolutionLines.{SolutionLineForm, solution_line_form}
use Rattle.loop_lines.specs.Columns.{placed_words}
use Rattle.problem_lines.specs.declared.fault.LineFault.{LineFault}
use Rattle.problems.specs.declared.limits.TheConstants.{MAX_PROBLEM_TEXT}
use Rattle.solution_reader.specs.Data.{SolutionData}
use Rattle.solution_reader.specs.Faults.{line_fault}
use Rattle.solution_reader.specs.Sofar.{TextLine, head_in, solutions_in}
use Rattle.problem_faults.specs.declared.refused_solutions.SolutionFault.{SolutionFault}
use Rattle.solution_reader.specs.declared.fault.Told.{Told}
use Rattle.problem_faults.specs.declared.refused_solutions.Wrong.{Wrong}
use Rattle.problem_faults.specs.declared.refused_solutions.Wrong.TheVariants as wrong

abbrev pub at_line : ℕ → Told → SolutionFault
at_line number told = record { line = number; column = told.column; width = told.width; what = told.what }

abbrev pub form_fault : ℕ → LineFault → SolutionFault
form_fault number fault = record { line = number; column = fault.column; width = fault.width; what = wrong.Form fault.what }

-- after the last line, whose number is one below this, a solution is under way
abbrev pub end_fault : ℕ → SolutionFault
end_fault number = record { line = number; column = 1; width = 0; what = wrong.NoEnd }

-- the text is too long
abbrev pub size_fault : SolutionFault
size_fault = record { line = 0; column = 0; width = 0; what = wrong.TextSize }

-- what follows a line, unless the line has a fault
abbrev pub judged : Option Told → ℕ → Result (List TextLine) SolutionFault → Result (List TextLine) SolutionFault
judged None number rest = rest
judged (Some told) number rest = Err (at_line number told)

-- a line that says something, with its number
abbrev pub text_line : ℕ → SolutionLineForm → TextLine
text_line number line = record { number = number; form = line.form }

-- the lines of a text from this number on, after these: all that say something, or the first fault
abbrev pub lines_from : ℕ → List TextLine → List (Result (Option SolutionLineForm) LineFault) → Result (List TextLine) SolutionFault
lines_from number before [] = if is_some (head_in before) then Err (end_fault number) else Ok before
lines_from number before (Err fault ∷ lines) = Err (form_fault number fault)
lines_from number before (Ok None ∷ lines) = lines_from (number + 1) before lines
lines_from number before (Ok (Some line) ∷ lines) =
    judged (line_fault before line) number (lines_from (number + 1) (before ++ text_line number line ∷ []) lines)

-- what each line of a text says, or its first fault by its words alone
abbrev pub forms_of : List ℕ → List (Result (Option SolutionLineForm) LineFault)
forms_of text = map (λ line. solution_line_form (placed_words line)) (lines_of text)

-- the lines of a text that say something, or its first fault. The length of the text is limited
abbrev pub lines_in : List ℕ → Result (List TextLine) SolutionFault
lines_in text = if nat_lt MAX_PROBLEM_TEXT (length text) then Err size_fault else lines_from 1 [] (forms_of text)

abbrev pub solutions_or : Result (List TextLine) SolutionFault → Result (List SolutionData) SolutionFault
solutions_or (Ok lines) = Ok (solutions_in lines)
solutions_or (Err fault) = Err fault

-- what a text means
unfoldable pub solutions_in_text : List ℕ → Result (List SolutionData) SolutionFault
solutions_in_text text = solutions_or (lines_in text)

-- the result is the meaning, unless memory ran out, which is said of line 0
abbrev pub AnswersFault : {A : Type 0} → Wrong → SolutionFault → Result A SolutionFault → Type 0
AnswersFault wrong.Memory fault meaning = fault.line ≡ 0
AnswersFault what fault meaning = Err fault ≡ meaning

abbrev pub AnswersText : Result (List SolutionData) SolutionFault → Result (List SolutionData) SolutionFault → Type 0
AnswersText (Ok solutions) meaning = Ok solutions ≡ meaning
AnswersText (Err fault) meaning = AnswersFault fault.what fault meaning
