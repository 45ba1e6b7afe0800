-- What a command does with its texts, and how a run of it ends.
use Rattle.std.specs.Global.{Global}
use Rattle.std.specs.Prelude.{◌≡◌, ◌↔◌, ◌+◌, ◌==◌, ◌⊎◌, ℕ, Bool, if◌then◌else◌, string_bytes, String, List, [], Option, Some, None, is_some, option_map, Result, Ok, Err}
use Rattle.command_line.specs.declared.command.Command.{Command}
use Rattle.command_line.specs.declared.command.Command.TheVariants as command
use Rattle.command_line.specs.declared.command.LintTexts.{LintTexts}
use Rattle.command_line.specs.declared.command.LintTexts.TheVariants as lint
use Rattle.command_line.specs.declared.command.Report.{Report}
use Rattle.command_line.specs.declared.command.Report.TheVariants as report
use Rattle.command_line.specs.declared.command.Work.{Work}
use Rattle.command_line.specs.declared.command.Work.TheVariants.{Plain, OnMachine}
use Rattle.command_line.specs.declared.command.Task.{Task}
use Rattle.command_line.specs.declared.command.Task.TheVariants as task
use Rattle.command_line.specs.declared.command.Search as search
use Rattle.command_line.specs.declared.command.Search.TheVariants.{Schedule, Json, Explain, Page, Scheduled, Vary, Total, Run}
use Rattle.settings.specs.declared.format.Format.{Format}
use Rattle.settings.specs.declared.format.Format.TheVariants as format
use Rattle.command_line.specs.Lines.{first_path}
use Rattle.devices.specs.Devices.{most_read}
use Rattle.file_faults.specs.Answers.{AnswersAlone, AnswersFile}
use Rattle.machine.specs.MachineText.{machine_of}
use Rattle.reader_faults.specs.declared.machine.MachineFault.{MachineFault}
use Rattle.machine.specs.Machines.{MachineData}
use Rattle.loop_data.specs.Loops.{LoopData}
use Rattle.reader_faults.specs.declared.loops.LoopFault.{LoopFault}
use Rattle.loop_reader.specs.Meaning.{loops_in}
use Rattle.listing_printouts.specs.Bounds.{IsBoundsText}
use Rattle.explain_printouts.specs.Explain.{IsExplainText}
use Rattle.explain_printouts.specs.ExplainDocuments.{IsExplainDocument, IsExplainPage}
use Rattle.graph_printouts.specs.Graphs.{IsDotText, IsEdgesText}
use Rattle.printouts.specs.Outcomes.{Outcome}
use Rattle.written.specs.Written.{Written}
use Rattle.lines_of_runs.specs.Plain.{IsPlainText}
use Rattle.run_printouts.specs.Run.{IsRunText}
use Rattle.json_printouts.specs.Documents.{IsListingDocument}
use Rattle.printouts.specs.Schedule.{IsListingText}
use Rattle.scheduled_printouts.specs.Graphs.{AreScheduledGraphs}
use Rattle.variants.specs.Texts.{IsVaryText}
use Rattle.variants.specs.Documents.{IsVaryDocument}
use Rattle.variants.specs.Totals.{IsVaryTotal}
use Rattle.lint_text.specs.Document.{IsLintDocument}
use Rattle.lint_text.specs.Printout.{AreInOrder, IsLintText}
use Rattle.lint_text.specs.declared.printout.LintText.{LintText}
use Rattle.lint_text.specs.declared.printout.Named.{Named}
use Rattle.modsched.specs.Naming.{chosen_of, unknown_in}
use Rattle.problems.specs.declared.limits.TheConstants.{MAX_PROBLEM_TEXT}
use Rattle.problem_printouts.specs.Solving.{AnswersSolve}
use Rattle.problem_printouts.specs.Judging.{AnswersCheck}
use Rattle.problem_printouts.specs.Graphing.{AnswersDot, AnswersEdges}
use Rattle.problem_printouts.specs.Explaining.{AnswersExplain}
use Rattle.problem_printouts.specs.Scheduling.{AnswersScheduled}
use Rattle.problem_printouts.specs.declared.answers.Answers.{Answers}
use Rattle.problem_faults.specs.declared.fault.ProblemsFault.{ProblemsFault}
use Rattle.exit_status.specs.Statuses.{refusal_of_file, refusal_of_machine, refusal_of_problems}
use Rattle.exit_status.specs.Writing.{EndsWritten, verdict_of_met}
use Rattle.exit_status.specs.declared.verdict.Verdict.{Verdict}
use Rattle.exit_status.specs.declared.verdict.Verdict.TheVariants.{Fine, MachineFaulty, LoopsFaulty}
use Rattle.exit_status.specs.declared.status.Status.{Status}
use Rattle.exit_status.specs.declared.status.Status.TheVariants.{MachineUnread, LoopsUnread, ProblemsUnread, SolutionsUnread, NoLoop, OutOfMemory}

-- the status where the text that `lint` reads first can't be read, and the one that it reads last
abbrev pub first_lint_unread : LintTexts → Status
first_lint_unread (lint.Machine path) = LoopsUnread
first_lint_unread (lint.Loops path) = MachineUnread
first_lint_unread (lint.Both machine loops) = MachineUnread

abbrev pub last_lint_unread : LintTexts → Status
last_lint_unread (lint.Machine path) = MachineUnread
last_lint_unread (lint.Loops path) = LoopsUnread
last_lint_unread (lint.Both machine loops) = LoopsUnread

-- the status where the text that a command reads first can't be read. A command that reads one text never ends so
abbrev pub first_unread : Command → Status
first_unread (command.Loops path names work) = MachineUnread
first_unread (command.Solve path settings format) = MachineUnread
first_unread (command.Problems path told) = MachineUnread
first_unread (command.Check path other) = ProblemsUnread
first_unread (command.Lint texts format) = first_lint_unread texts

-- .. the text that it reads last
abbrev pub last_unread : Command → Status
last_unread (command.Loops path names work) = LoopsUnread
last_unread (command.Solve path settings format) = ProblemsUnread
last_unread (command.Problems path told) = ProblemsUnread
last_unread (command.Check path other) = SolutionsUnread
last_unread (command.Lint texts format) = last_lint_unread texts

-- as much of a text of problems or of solutions as is read, in bytes: one more than such a text may have
unfoldable pub most_problems_read : ℕ
most_problems_read = MAX_PROBLEM_TEXT + 1

-- as much of each of its texts as a command reads, in bytes
abbrev pub most_read_by : Command → ℕ
most_read_by (command.Loops path names work) = most_read
most_read_by (command.Solve path settings format) = most_problems_read
most_read_by (command.Problems path told) = most_problems_read
most_read_by (command.Check path other) = most_problems_read
most_read_by (command.Lint texts format) = most_read

-- a command reads a first text where it has a path for it: a machine's, or that of problems before that of solutions; each reads a last text
abbrev pub reads_first : Command → Bool
reads_first command = is_some (first_path command)

-- what a command has of a first text: what the input had left, or nothing where it reads none
abbrev pub first_for : Command → Option (List ℕ) → Option (List ℕ)
first_for command left = if reads_first command then left else Some []

-- what is written of a search for kernels: the ratio and the ceiling settle it, whatever the workers and the cut
abbrev pub IsSearchText : ℕ → ℕ → search.Search → MachineData → List LoopData → Written → Type 0
IsSearchText ratio ceiling Schedule machine loops written = IsListingText ratio ceiling machine loops written
IsSearchText ratio ceiling Json machine loops written = IsListingDocument ratio ceiling machine loops written
IsSearchText ratio ceiling (Explain format.Text) machine loops written = IsExplainText ratio ceiling machine loops written
IsSearchText ratio ceiling (Explain format.Json) machine loops written = IsExplainDocument ratio ceiling machine loops written
IsSearchText ratio ceiling Page machine loops written = IsExplainPage ratio ceiling machine loops written
IsSearchText ratio ceiling Scheduled machine loops written = AreScheduledGraphs ratio ceiling machine loops written
IsSearchText ratio ceiling (Vary format.Text) machine loops written = IsVaryText ratio ceiling machine loops written
IsSearchText ratio ceiling (Vary format.Json) machine loops written = IsVaryDocument ratio ceiling machine loops written
IsSearchText ratio ceiling Total machine loops written = IsVaryTotal ratio ceiling machine loops written
IsSearchText ratio ceiling (Run trip) machine loops written = IsRunText trip ratio ceiling machine loops written

-- what is written of loops on a machine
abbrev pub IsTaskText : Task → MachineData → List LoopData → Written → Type 0
IsTaskText task.Bounds machine loops written = IsBoundsText machine loops written
IsTaskText task.Edges machine loops written = IsEdgesText machine loops written
IsTaskText task.Dot machine loops written = IsDotText machine loops written
IsTaskText (task.Search settings search) machine loops written = IsSearchText settings.ratio settings.ceiling search machine loops written

-- an outcome of a command for what the text of its loops means: `plain` speaks of that alone, the others of what the machine's means too
abbrev pub WorkBrings : Work → List ℕ → Result (List LoopData) LoopFault → Outcome → Type 0
WorkBrings (Plain trip workers) machine loops outcome = AnswersAlone (IsPlainText trip) loops outcome
WorkBrings (OnMachine path task) machine loops outcome = AnswersFile (IsTaskText task) (machine_of machine) loops outcome

-- a text that is written, with what it tells
pub record AnswerData : Type 0 where
  pub text : List ℕ
  pub verdict : Verdict

-- what a command comes to: a text that is written, or the status of a refusal
abbrev pub Ending : Type 0
Ending = Result AnswerData Status

-- a text of loops or problems that are all met, or not
abbrev pub answer_of : Written → AnswerData
answer_of written = record { text = written.text; verdict = verdict_of_met written.all_met }

abbrev pub loops_ending : Outcome → Ending
loops_ending (Ok written) = Ok (answer_of written)
loops_ending (Err fault) = Err (refusal_of_file fault)

-- what a command comes to for the loops that have the names that were given
abbrev pub ChosenBring : Work → List ℕ → Result (List LoopData) LoopFault → Ending → Type 0
ChosenBring work machine loops ending = (outcome : Outcome) × WorkBrings work machine loops outcome × (ending ≡ loops_ending outcome)

-- the status where no loop has a name; memory may run out
abbrev pub IsNoLoop : List ℕ → Status → Type 0
IsNoLoop name status = (status ≡ OutOfMemory) ⊎ ((other : String Global) × (status ≡ NoLoop other) × (string_bytes other ≡ name))

-- .. after a fault of the machine's text, where one is read
abbrev pub LacksOn : Result MachineData MachineFault → List ℕ → Status → Type 0
LacksOn (Err fault) name status = (status ≡ OutOfMemory) ⊎ (status ≡ refusal_of_machine fault)
LacksOn (Ok machine) name status = IsNoLoop name status

abbrev pub LacksFor : Work → List ℕ → List ℕ → Status → Type 0
LacksFor (Plain trip workers) machine name status = IsNoLoop name status
LacksFor (OnMachine path task) machine name status = LacksOn (machine_of machine) name status

abbrev pub LacksLoop : Work → List ℕ → List ℕ → Ending → Type 0
LacksLoop work machine name (Ok answer) = ⊥
LacksLoop work machine name (Err status) = LacksFor work machine name status

-- what it comes to for the loops of a text, where the first of the names that no loop has is this
abbrev pub LoopsBring : {Z : Type 0} → Work → List (String Z) → List ℕ → Result (List LoopData) LoopFault → Option (String Z) → Ending → Type 0
LoopsBring work names machine loops None ending = ChosenBring work machine (chosen_of names loops) ending
LoopsBring work names machine loops (Some name) ending = LacksLoop work machine (string_bytes name) ending

-- the text of answers to problems: all are met where none has failed
abbrev pub written_of : Answers → Written
written_of told = record { text = told.text.items; all_met = told.failed == 0 }

abbrev pub problems_ending : Result Answers ProblemsFault → Ending
problems_ending (Ok told) = Ok (answer_of (written_of told))
problems_ending (Err fault) = Err (refusal_of_problems fault)

-- what is done with problems comes to this, by an outcome like that
abbrev pub ProblemsBring : (Result Answers ProblemsFault → Type 0) → Ending → Type 0
ProblemsBring IsOutcome ending = (outcome : Result Answers ProblemsFault) × IsOutcome outcome × (ending ≡ problems_ending outcome)

-- what is told of the problems of a text
abbrev pub AnswersReport : Report → List ℕ → Result Answers ProblemsFault → Type 0
AnswersReport report.Edges text outcome = AnswersEdges text outcome
AnswersReport report.Dot text outcome = AnswersDot text outcome
AnswersReport (report.Explain settings) text outcome = AnswersExplain settings text outcome
AnswersReport (report.Scheduled settings) text outcome = AnswersScheduled settings text outcome

-- the machine's text whose faults are told, with its path: the first text where loops are read after it, and else the last
abbrev pub machine_to_lint : LintTexts → List ℕ → List ℕ → Option (List ℕ × List ℕ)
machine_to_lint (lint.Machine machine) first last = Some (string_bytes machine, last)
machine_to_lint (lint.Loops loops) first last = None
machine_to_lint (lint.Both machine loops) first last = Some (string_bytes machine, first)

-- .. the loops'
abbrev pub loops_to_lint : LintTexts → List ℕ → Option (List ℕ × List ℕ)
loops_to_lint (lint.Machine machine) last = None
loops_to_lint (lint.Loops loops) last = Some (string_bytes loops, last)
loops_to_lint (lint.Both machine loops) last = Some (string_bytes loops, last)

-- a text with its path is this, or there is none
abbrev pub IsNamed : Option (List ℕ × List ℕ) → Option Named → Type 0
IsNamed wanted named = option_map (λ (n : Named). (n.path.now, n.text.now)) named ≡ wanted

-- of which text faults are told: of the machine's, if there are any of it, and else of the loops'
abbrev pub lint_verdict : LintText → Verdict
lint_verdict printed = if printed.machine_faults then MachineFaulty else if printed.loop_faults then LoopsFaulty else Fine

abbrev pub lint_answer : LintText → AnswerData
lint_answer printed = record { text = printed.text.items; verdict = lint_verdict printed }

-- the faults of these texts are shown, as lines or as a document
abbrev pub IsLintAs : Format → Option Named → Option Named → LintText → Type 0
IsLintAs format.Text machine loops printed = IsLintText machine loops printed
IsLintAs format.Json machine loops printed = IsLintDocument machine loops printed

-- the texts that are looked at are in order
abbrev pub AreFine : LintTexts → List ℕ → List ℕ → Type 0
AreFine texts first last = AreInOrder (option_map (λ (t : List ℕ × List ℕ). t.1) (machine_to_lint texts first last)) (option_map (λ (t : List ℕ × List ℕ). t.1) (loops_to_lint texts last))

-- .. all of them; and it is well just where the texts are in order
pub record LintsTold (format : Format) (texts : LintTexts) (first last : List ℕ) (answer : AnswerData) : Type 0 where
  pub machine : Option Named
  pub loops : Option Named
  pub printed : LintText
  pub is_machine : IsNamed (machine_to_lint texts first last) machine
  pub is_loops : IsNamed (loops_to_lint texts last) loops
  pub is_text : IsLintAs format machine loops printed
  pub is_answer : answer ≡ lint_answer printed
  pub fine : (answer.verdict ≡ Fine) ↔ AreFine texts first last

-- `lint` refuses no text, so that only memory can run out
abbrev pub LintBrings : Format → LintTexts → List ℕ → List ℕ → Ending → Type 0
LintBrings format texts first last (Ok answer) = LintsTold format texts first last answer
LintBrings format texts first last (Err status) = status ≡ OutOfMemory

-- what a command comes to for the bytes of its texts
abbrev pub Brings : Command → List ℕ → List ℕ → Ending → Type 0
Brings (command.Loops path names work) first last ending =
    LoopsBring work names.items first (loops_in last) (unknown_in names.items (loops_in last)) ending
Brings (command.Solve path settings format) first last ending = ProblemsBring (AnswersSolve settings format last) ending
Brings (command.Problems path told) first last ending = ProblemsBring (AnswersReport told last) ending
Brings (command.Check path other) first last ending = ProblemsBring (AnswersCheck first last) ending
Brings (command.Lint texts format) first last ending = LintBrings format texts first last ending

-- a command comes to an ending like that, for the bytes that its inputs had left
abbrev pub Does : Command → Option (List ℕ) → Option (List ℕ) → (Ending → Type 0) → Type 0
Does command first last IsBrought =
    (first_bytes last_bytes : List ℕ) → first_for command first ≡ Some first_bytes → last ≡ Some last_bytes
    → (ending : Ending) × Brings command first_bytes last_bytes ending × IsBrought ending

-- the run ended as its ending says: with a text that is written, or with the status of a refusal and nothing written
abbrev pub Ends : Ending → Option (List ℕ) → Option (List ℕ) → Status → Type 0
Ends (Ok answer) before after ended = EndsWritten answer.text answer.verdict before after ended
Ends (Err refusal) before after ended = (ended ≡ refusal) × (after ≡ before)
