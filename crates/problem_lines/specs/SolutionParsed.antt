-- The forms of lines of a text of solutions that are read, beside what they stand for.
use Rattle.std.specs.Prelude.{Option, option_map, Result, Ok, Err}
use Rattle.problem_lines.specs.Seen.{word_seen}
use Rattle.problem_lines.specs.SolutionForms as spec
use Rattle.problem_lines.specs.SolutionLines.{SolutionLineForm}
use Rattle.problem_lines.specs.declared.fault.LineFault.{LineFault}
use Rattle.problem_lines.specs.declared.solution_form.SolutionForm.{SolutionForm}
use Rattle.problem_lines.specs.declared.solution_form.SolutionForm.TheVariants as forms
use Rattle.problem_lines.specs.declared.solution_form.SolutionLine.{SolutionLine}

abbrev pub solution_form_seen : SolutionForm → spec.SolutionForm
solution_form_seen (forms.Solution name ii) = spec.SolutionBegins (word_seen name) ii
solution_form_seen (forms.Op name time alternative) = spec.OpTime (word_seen name) time alternative
solution_form_seen (forms.Value name number) = spec.ValueNumber (word_seen name) number
solution_form_seen forms.End = spec.SolutionEnds

-- a line after its keyword
abbrev pub solution_rest_seen : Result SolutionForm LineFault → Result spec.SolutionForm LineFault
solution_rest_seen (Ok form) = Ok (solution_form_seen form)
solution_rest_seen (Err fault) = Err fault

abbrev pub solution_line_seen : SolutionLine → SolutionLineForm
solution_line_seen line = record { column = line.column; width = line.width; form = solution_form_seen line.form }

-- a line
abbrev pub solution_seen : Result (Option SolutionLine) LineFault → Result (Option SolutionLineForm) LineFault
solution_seen (Ok line) = Ok (option_map solution_line_seen line)
solution_seen (Err fault) = Err fault
