-- The form of a line of a text of solutions by its words, or its first fault.
use Rattle.std.specs.Prelude.{ℕ, List, [], ◌∷◌, length, Option, Some, None, Result, Ok, Err}
use Rattle.problem_lines.specs.Fits.{fault_on, surplus}
use Rattle.problem_lines.specs.Keywords.{solution_keyword_named}
use Rattle.problem_lines.specs.Lines.{places_fault, unless_fault}
use Rattle.problem_lines.specs.Numbers.{number_of}
use Rattle.problem_lines.specs.SolutionForms.{SolutionForm, SolutionBegins, OpTime, ValueNumber, SolutionEnds}
use Rattle.loop_lines.specs.Columns.{Placed, column_after}
use Rattle.problem_lines.specs.Words.{LeftWords, word_at}
use Rattle.problem_faults.specs.declared.expected.Expected.{Expected}
use Rattle.problem_faults.specs.declared.expected.Expected.TheVariants.{Name, Number, SolutionKeyword, Ii, Time, By, NumberWord}
use Rattle.problem_lines.specs.declared.fault.LineFault.{LineFault}
use Rattle.problem_lines.specs.declared.keyword.SolutionKeyword as first
use Rattle.problem_lines.specs.declared.keyword.SolutionKeyword.TheVariants as words

-- what stands after a keyword
abbrev pub solution_places : first.SolutionKeyword → List Expected
solution_places words.Solution = Name ∷ Ii ∷ Number ∷ []
solution_places words.Op = Name ∷ Time ∷ Number ∷ By ∷ Number ∷ []
solution_places words.Value = Name ∷ NumberWord ∷ Number ∷ []
solution_places words.End = []

-- what words say that fit their places
abbrev pub solution_says : first.SolutionKeyword → List Placed → SolutionForm
solution_says words.Solution ws = SolutionBegins (word_at ws 0) (number_of (word_at ws 2))
solution_says words.Op ws = OpTime (word_at ws 0) (number_of (word_at ws 2)) (number_of (word_at ws 4))
solution_says words.Value ws = ValueNumber (word_at ws 0) (number_of (word_at ws 2))
solution_says words.End ws = SolutionEnds

-- what is left of a line after its keyword
abbrev pub solution_rest : first.SolutionKeyword → LeftWords → Result SolutionForm LineFault
solution_rest keyword left = unless_fault (places_fault surplus left.after (solution_places keyword) left.words) (solution_says keyword left.words)

-- a line that says something, with the column and the width of its keyword
pub record SolutionLineForm : Type 0 where
  pub column : ℕ
  pub width : ℕ
  pub form : SolutionForm

abbrev pub with_solution_keyword : Placed → Result SolutionForm LineFault → Result (Option SolutionLineForm) LineFault
with_solution_keyword w (Ok form) = Ok (Some (record { column = w.column; width = length w.bytes; form = form }))
with_solution_keyword w (Err fault) = Err fault

abbrev pub solution_word_line : Option first.SolutionKeyword → Placed → List Placed → Result (Option SolutionLineForm) LineFault
solution_word_line None w ws = Err (fault_on SolutionKeyword w)
solution_word_line (Some keyword) w ws = with_solution_keyword w (solution_rest keyword (record { words = ws; after = column_after w }))

-- a line, which says nothing where it has no words
abbrev pub solution_line_form : List Placed → Result (Option SolutionLineForm) LineFault
solution_line_form [] = Ok None
solution_line_form (w ∷ ws) = solution_word_line (solution_keyword_named w.bytes) w ws
