-- The forms that are read, beside what they stand for.
use Rattle.std.specs.Prelude.{Option, option_map, Result, Ok, Err}
use Rattle.problem_lines.specs.Forms as spec
use Rattle.problem_lines.specs.declared.fault.LineFault.{LineFault}
use Rattle.problem_lines.specs.declared.form.Form.{Form}
use Rattle.problem_lines.specs.declared.form.Form.TheVariants as forms
use Rattle.problem_lines.specs.Lines.{LineForm}
use Rattle.problem_lines.specs.Seen.{word_seen}
use Rattle.problem_lines.specs.declared.form.Line.{Line}

abbrev pub form_seen : Form → spec.Form
form_seen (forms.Machine name) = spec.MachineLine (word_seen name)
form_seen (forms.Units names) = spec.UnitsLine names
form_seen (forms.File name storage) = spec.FileLine (word_seen name) storage
form_seen (forms.Kind name latency alternatives) = spec.KindLine (word_seen name) latency alternatives
form_seen (forms.Problem name) = spec.ProblemLine (word_seen name)
form_seen (forms.Op name kind) = spec.OpLine (word_seen name) (word_seen kind)
form_seen (forms.Value name maker lands file out) = spec.ValueLine (word_seen name) (word_seen maker) lands (word_seen file) out
form_seen (forms.Read reader value distance offset) = spec.ReadLine (word_seen reader) (word_seen value) distance offset
form_seen (forms.Edge from to delay distance) = spec.EdgeLine (word_seen from) (word_seen to) delay distance
form_seen forms.End = spec.EndLine

-- a line after its keyword
abbrev pub result_seen : Result Form LineFault → Result spec.Form LineFault
result_seen (Ok form) = Ok (form_seen form)
result_seen (Err fault) = Err fault

abbrev pub line_seen : Line → LineForm
line_seen line = record { column = line.column; width = line.width; form = form_seen line.form }

-- a line
abbrev pub seen : Result (Option Line) LineFault → Result (Option LineForm) LineFault
seen (Ok line) = Ok (option_map line_seen line)
seen (Err fault) = Err fault
