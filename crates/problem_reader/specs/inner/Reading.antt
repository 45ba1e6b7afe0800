-- What is answered for a line and for the end of a text.
use Rattle.std.specs.Prelude.{◌≡◌, ◌⊎◌, ℕ, true, false, Option, Some, None, option_map, Result, Ok, Err}
use Rattle.problem_lines.specs.Lines.{LineForm}
use Rattle.problem_lines.specs.declared.fault.LineFault.{LineFault}
use Rattle.problem_tables.specs.Data.{FileData}
use Rattle.problem_tables.specs.Tables.{TablesData, line_fault, with_form, with_machine_ended}
use Rattle.problem_reader.specs.Files.{out_of_memory}
use Rattle.problem_reader.specs.Meaning.{at_line, end_fault, form_fault}
use Rattle.problem_faults.specs.declared.refused_problems.TextFault.{TextFault}

-- the fault of a line of this number
abbrev pub text_fault : TablesData → ℕ → Result (Option LineForm) LineFault → Option TextFault
text_fault tables number (Err fault) = Some (form_fault number fault)
text_fault tables number (Ok None) = None
text_fault tables number (Ok (Some line)) = option_map (at_line number) (line_fault tables line)

-- the tables with it
abbrev pub with_text : TablesData → Result (Option LineForm) LineFault → TablesData
with_text tables (Ok (Some line)) = with_form tables line.form
with_text tables line = tables

-- a line is refused just where it has this fault, unless memory runs out
abbrev pub RefusesText : {A : Type 0} → Result A TextFault → Option TextFault → Type 0
RefusesText (Ok done) fault = fault ≡ None
RefusesText (Err told) fault = (fault ≡ Some told) ⊎ (told ≡ out_of_memory)

-- the file of these tables, unless the text ends inside a problem or memory runs out
abbrev pub AnswersEnd : TablesData → ℕ → Result FileData TextFault → Type 0
AnswersEnd tables number (Ok file) = (tables.inside ≡ false) × (file ≡ (with_machine_ended tables).ended)
AnswersEnd tables number (Err told) = ((tables.inside ≡ true) × (told ≡ end_fault number)) ⊎ (told ≡ out_of_memory)
