-- How runs of subcommands end.
use Rattle.std.proofs.Common.{◌≡◌, ℕ, ◌<◌, List, String, string_bytes, Option, Some, None, refl, sym, ap, subst, ◌∙◌, arith, length, take, inl, inr}
use Rattle.std.specs.Prelude.{Result, Ok, Err}
use Rattle.std.proofs.lemmas.List.{take_all, length-take-le}
use Rattle.std.proofs.lemmas.Bool.{cases_lt, lt-ltb}
use Rattle.reader_faults.specs.declared.loops.LoopFault.{LoopFault}
use Rattle.command_line.specs.declared.command.Command.{Command}
use Rattle.command_line.specs.declared.command.Command.TheVariants as command
use Rattle.command_line.specs.declared.command.Report.{Report}
use Rattle.command_line.specs.declared.command.Report.TheVariants as report
use Rattle.command_line.specs.declared.command.Work.{Work}
use Rattle.command_line.specs.declared.command.Work.TheVariants.{Plain, OnMachine}
use Rattle.problem_faults.specs.declared.refused_problems.Wrong.TheVariants as problems_wrong
use Rattle.problem_reader.specs.Files.{file_in_text, data_or}
use Rattle.problem_reader.specs.Meaning.{forms_in}
use Rattle.problem_faults.specs.declared.refused_solutions.SolutionFault.{SolutionFault}
use Rattle.solution_reader.specs.Data.{SolutionData as TextSolution}
use Rattle.solution_reader.specs.Meaning.{size_fault, solutions_in_text}
use Rattle.problem_printouts.specs.Solving.{AnswersSolve}
use Rattle.settings.specs.declared.format.Format.{Format}
use Rattle.problem_printouts.specs.Judging.{AnswersCheck, IsFaultOf}
use Rattle.problem_printouts.specs.declared.answers.Answers.{Answers}
use Rattle.problem_faults.specs.declared.fault.ProblemsFault.{ProblemsFault}
use Rattle.problem_faults.specs.declared.fault.ProblemsFault.TheVariants as problems
use Rattle.settings.specs.Settings.{SettingsData}
use Rattle.modsched.specs.Devices.{most_read}
use Rattle.modsched.specs.Engine.{AnswersReport, Brings, ChosenBring, Ending, LacksLoop, LoopsBring, most_problems_read, most_read_by}
use Rattle.modsched.specs.Naming.{chosen_of, unknown_in}
use Rattle.loop_data.specs.Loops.{LoopData}
use Rattle.loop_reader.specs.Meaning.{loops_in}
use Rattle.modsched.specs.inner.Refusals.{IsRefusal}
use Rattle.modsched.proofs.Lengths.{loops_in-take, machine_of-take}
use Rattle.modsched.proofs.Linting.{lint-take}
use Rattle.exit_status.specs.Statuses.{status_number}
use Rattle.exit_status.specs.declared.status.Status.{Status}
use Rattle.exit_status.specs.declared.status.Status.TheVariants.{Done, Unmet, MachineFaulty, LoopsFaulty, MachineUnread, LoopsUnread, ProblemsUnread, SolutionsUnread}
use Rattle.exit_status.specs.declared.status.Status.TheVariants.{Machine, Loops, NoTable, NoLoop, Problems, Solutions, Unwritten, OutOfMemory}

-- among them one status alone tells that memory ran out
pub refusal_memory : (status : Status) → IsRefusal status → status_number status ≡ 7 → status ≡ OutOfMemory
refusal_memory (Machine f) is seven = absurd (omega (arith, is, seven))
refusal_memory (Loops f) is seven = absurd (omega (arith, is, seven))
refusal_memory (NoTable name opcode) is seven = absurd (omega (arith, seven))
refusal_memory (NoLoop name) is seven = absurd (omega (arith, seven))
refusal_memory (Problems f) is seven = absurd (omega (arith, is, seven))
refusal_memory (Solutions f) is seven = absurd (omega (arith, is, seven))
refusal_memory OutOfMemory is seven = refl
refusal_memory Done is seven = absurd is
refusal_memory Unmet is seven = absurd is
refusal_memory MachineFaulty is seven = absurd is
refusal_memory LoopsFaulty is seven = absurd is
refusal_memory MachineUnread is seven = absurd is
refusal_memory LoopsUnread is seven = absurd is
refusal_memory ProblemsUnread is seven = absurd is
refusal_memory SolutionsUnread is seven = absurd is
refusal_memory Unwritten is seven = absurd is

problems_too_long : (text : List ℕ) → 16777216 < length text → forms_in text ≡ Err (record { line = 0; column = 0; width = 0; what = problems_wrong.TextSize })
unfolding forms_in
problems_too_long text h = rw (lt-ltb 16777216 (length text) h) refl

solutions_too_long : (text : List ℕ) → 16777216 < length text → solutions_in_text text ≡ Err size_fault
unfolding solutions_in_text
solutions_too_long text h = rw (lt-ltb 16777216 (length text) h) refl

taken_problems_too_long : (text : List ℕ) → most_problems_read < length text → (16777216 < length (take most_problems_read text)) × (16777216 < length text)
unfolding most_problems_read
taken_problems_too_long text h =
    let e : length (take 16777217 text) ≡ 16777217 = length-take-le 16777217 text (omega arith) in (omega (arith, e), omega arith)

forms_in-take : (bytes : List ℕ) → forms_in (take most_problems_read bytes) ≡ forms_in bytes
forms_in-take bytes = elim (cases_lt most_problems_read (length bytes)) [
  | inl h ↦
      let long = taken_problems_too_long bytes h in
      problems_too_long (take most_problems_read bytes) long.0 ∙ sym (problems_too_long bytes long.1)
  | inr h ↦ ap forms_in (take_all most_problems_read bytes h)
]

file_in_text-take : (bytes : List ℕ) → file_in_text (take most_problems_read bytes) ≡ file_in_text bytes
file_in_text-take bytes = ap data_or (forms_in-take bytes)

solutions_in_text-take : (bytes : List ℕ) → solutions_in_text (take most_problems_read bytes) ≡ solutions_in_text bytes
solutions_in_text-take bytes = elim (cases_lt most_problems_read (length bytes)) [
  | inl h ↦
      let long = taken_problems_too_long bytes h in
      solutions_too_long (take most_problems_read bytes) long.0 ∙ sym (solutions_too_long bytes long.1)
  | inr h ↦ ap solutions_in_text (take_all most_problems_read bytes h)
]

chosen_bring-take : (work : Work) (machine : List ℕ) (loops : Result (List LoopData) LoopFault) (ending : Ending) → ChosenBring work (take most_read machine) loops ending → ChosenBring work machine loops ending
chosen_bring-take (Plain trip workers) machine loops ending h = h
chosen_bring-take (OnMachine path task) machine loops ending h = rw (machine_of-take machine) at h

lacks-take : (work : Work) (machine name : List ℕ) (ending : Ending) → LacksLoop work (take most_read machine) name ending → LacksLoop work machine name ending
lacks-take work machine name (Ok answer) h = h
lacks-take (Plain trip workers) machine name (Err status) h = h
lacks-take (OnMachine path task) machine name (Err status) h = rw (machine_of-take machine) at h

loops_bring-take : {Z : Type 0} (work : Work) (names : List (String Z)) (machine : List ℕ) (loops : Result (List LoopData) LoopFault) (unknown : Option (String Z)) (ending : Ending)
    → LoopsBring work names (take most_read machine) loops unknown ending → LoopsBring work names machine loops unknown ending
loops_bring-take work names machine loops None ending h = chosen_bring-take work machine (chosen_of names loops) ending h
loops_bring-take work names machine loops (Some name) ending h = lacks-take work machine (string_bytes name) ending h

solve-take : (settings : SettingsData) (format : Format) (text : List ℕ) (outcome : Result Answers ProblemsFault)
    → AnswersSolve settings format (take most_problems_read text) outcome → AnswersSolve settings format text outcome
solve-take settings format text (Ok told) h = rw (forms_in-take text) at h
solve-take settings format text (Err (problems.Problems fault)) h = rw (forms_in-take text) at h
solve-take settings format text (Err (problems.Solutions fault)) h = h
solve-take settings format text (Err problems.Memory) h = h

report-take : (told : Report) (text : List ℕ) (outcome : Result Answers ProblemsFault)
    → AnswersReport told (take most_problems_read text) outcome → AnswersReport told text outcome
report-take report.Edges text (Ok told) h = rw (forms_in-take text) at h
report-take report.Edges text (Err (problems.Problems fault)) h = rw (forms_in-take text) at h
report-take report.Edges text (Err (problems.Solutions fault)) h = h
report-take report.Edges text (Err problems.Memory) h = h
report-take report.Dot text (Ok told) h = rw (forms_in-take text) at h
report-take report.Dot text (Err (problems.Problems fault)) h = rw (forms_in-take text) at h
report-take report.Dot text (Err (problems.Solutions fault)) h = h
report-take report.Dot text (Err problems.Memory) h = h
report-take (report.Scheduled settings) text (Ok told) h = rw (forms_in-take text) at h
report-take (report.Scheduled settings) text (Err (problems.Problems fault)) h = rw (forms_in-take text) at h
report-take (report.Scheduled settings) text (Err (problems.Solutions fault)) h = h
report-take (report.Scheduled settings) text (Err problems.Memory) h = h
report-take (report.Explain settings) text (Ok told) h = rw (forms_in-take text) at h
report-take (report.Explain settings) text (Err (problems.Problems fault)) h = rw (forms_in-take text) at h
report-take (report.Explain settings) text (Err (problems.Solutions fault)) h = h
report-take (report.Explain settings) text (Err problems.Memory) h = h

check-take : (first last : List ℕ) (outcome : Result Answers ProblemsFault)
    → AnswersCheck (take most_problems_read first) (take most_problems_read last) outcome → AnswersCheck first last outcome
check-take first last (Ok told) h = record {
  file = h.file;
  list = h.list;
  is_file = sym (file_in_text-take first) ∙ h.is_file;
  is_list = sym (solutions_in_text-take last) ∙ h.is_list;
  all_known = h.all_known;
  is_text = h.is_text;
}
check-take first last (Err (problems.Problems fault)) h = rw (forms_in-take first) at h
check-take first last (Err (problems.Solutions fault)) h = record {
  file = h.file;
  is_file = sym (file_in_text-take first) ∙ h.is_file;
  is_fault = subst (λ (r : Result (List TextSolution) SolutionFault). IsFaultOf h.file r fault) (solutions_in_text-take last) h.is_fault;
  of_text = h.of_text;
}
check-take first last (Err problems.Memory) h = h

brings-take : (c : Command) (first last : List ℕ) (ending : Ending) → Brings c (take (most_read_by c) first) (take (most_read_by c) last) ending → Brings c first last ending
brings-take (command.Loops path names work) first last ending h =
    let whole : LoopsBring work names.items (take most_read first) (loops_in last) (unknown_in names.items (loops_in last)) ending = rw (loops_in-take last) at h in
    loops_bring-take work names.items first (loops_in last) (unknown_in names.items (loops_in last)) ending whole
brings-take (command.Solve path settings format) first last ending h = (h.0, solve-take settings format last h.0 h.1, h.2)
brings-take (command.Problems path told) first last ending h = (h.0, report-take told last h.0 h.1, h.2)
brings-take (command.Check path other) first last ending h = (h.0, check-take first last h.0 h.1, h.2)
brings-take (command.Lint texts format) first last ending h = lint-take format texts first last ending h

-- what was read of texts brings about what the whole texts do
pub brings-read : (c : Command) (first last first_read last_read : List ℕ) (ending : Ending)
    → first_read ≡ take (most_read_by c) first → last_read ≡ take (most_read_by c) last → Brings c first_read last_read ending → Brings c first last ending
brings-read c first last first_read last_read ending f l h = brings-take c first last ending (rw (f, l) at h)
