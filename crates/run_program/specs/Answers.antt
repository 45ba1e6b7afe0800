-- What the small program that has `run` and `plain` does with loops.
use Rattle.std.specs.Prelude.{Bool, true, false, List, [], ◌∷◌, Option, Some, None, Result}
use Rattle.command_line.specs.declared.command.Command.{Command}
use Rattle.command_line.specs.declared.command.Command.TheVariants.{Loops}
use Rattle.command_line.specs.declared.command.Work as command
use Rattle.command_line.specs.declared.command.Work.TheVariants as work
use Rattle.command_line.specs.declared.command.Task.{Task}
use Rattle.command_line.specs.declared.command.Task.TheVariants as task
use Rattle.command_line.specs.declared.command.Search.{Search}
use Rattle.command_line.specs.declared.command.Search.TheVariants as search
use Rattle.settings.specs.Settings.{SettingsData}
use Rattle.reader_faults.specs.declared.machine.MachineFault.{MachineFault}
use Rattle.machine.specs.Machines.{MachineData}
use Rattle.loop_data.specs.Loops.{LoopData}
use Rattle.reader_faults.specs.declared.loops.LoopFault.{LoopFault}
use Rattle.file_faults.specs.Answers.{AnswersAlone, AnswersFile}
use Rattle.file_faults.specs.declared.fault.FileFault.{FileFault}
use Rattle.lines_of_runs.specs.Plain.{IsPlainText}
use Rattle.run_printouts.specs.Run.{IsRunText}
use Rattle.written.specs.Written.{Written}
use Rattle.run_program.specs.declared.wanted.Wanted.{Wanted}
use Rattle.run_program.specs.declared.wanted.Wanted.TheVariants.{Plain, Run}

-- which commands it has: the runs of the kernels, and those of the loops one iteration after another; of all loops of a text, as lines
abbrev pub wanted_of_search : SettingsData → Search → Option Wanted
wanted_of_search settings (search.Run trip) = Some (Run settings trip)
wanted_of_search settings _ = None

abbrev pub wanted_of_task : Task → Option Wanted
wanted_of_task (task.Search settings search) = wanted_of_search settings search
wanted_of_task _ = None

abbrev pub wanted_of_work : command.Work → Option Wanted
wanted_of_work (work.Plain trip workers) = Some (Plain trip)
wanted_of_work (work.OnMachine path task) = wanted_of_task task

abbrev pub wanted_of_named : {A : Type 0} → List A → command.Work → Option Wanted
wanted_of_named [] work = wanted_of_work work
wanted_of_named (name ∷ names) work = None

abbrev pub wanted_of : Command → Option Wanted
wanted_of (Loops path names work) = wanted_of_named names.items work
wanted_of _ = None

-- the runs of the loops alone read no machine
abbrev pub on_machine : Wanted → Bool
on_machine (Plain trip) = false
on_machine (Run settings trip) = true

-- an outcome of what is wanted, for what the texts of a machine and of loops mean. The runs of the loops alone need no machine
abbrev pub TellsOf : Wanted → Result MachineData MachineFault → Result (List LoopData) LoopFault → Result Written FileFault → Type 0
TellsOf (Plain trip) machine loops outcome = AnswersAlone (IsPlainText trip) loops outcome
TellsOf (Run settings trip) machine loops outcome = AnswersFile (IsRunText trip settings.ratio settings.ceiling) machine loops outcome
