-- What the small program that has `schedule` and `bounds` does with loops.
use Rattle.std.specs.Prelude.{Bool, true, List, [], ◌∷◌, Option, Some, None, Result}
use Rattle.command_line.specs.declared.command.Command.{Command}
use Rattle.command_line.specs.declared.command.Command.TheVariants.{Loops}
use Rattle.command_line.specs.declared.command.Work as command
use Rattle.command_line.specs.declared.command.Work.TheVariants as work
use Rattle.command_line.specs.declared.command.Task.{Task}
use Rattle.command_line.specs.declared.command.Task.TheVariants as task
use Rattle.command_line.specs.declared.command.Search.{Search}
use Rattle.command_line.specs.declared.command.Search.TheVariants as search
use Rattle.settings.specs.Settings.{SettingsData}
use Rattle.reader_faults.specs.declared.machine.MachineFault.{MachineFault}
use Rattle.machine.specs.Machines.{MachineData}
use Rattle.loop_data.specs.Loops.{LoopData}
use Rattle.reader_faults.specs.declared.loops.LoopFault.{LoopFault}
use Rattle.file_faults.specs.Answers.{AnswersFile}
use Rattle.listing_printouts.specs.Bounds.{IsBoundsText}
use Rattle.printouts.specs.Outcomes.{Outcome}
use Rattle.printouts.specs.Schedule.{IsListingText}
use Rattle.schedule_program.specs.declared.wanted.Wanted.{Wanted}
use Rattle.schedule_program.specs.declared.wanted.Wanted.TheVariants.{Bounds, Schedule}

-- which commands it has: the listing and bounds, of all loops of a text, as lines
abbrev pub wanted_of_search : SettingsData → Search → Option Wanted
wanted_of_search settings search.Schedule = Some (Schedule settings)
wanted_of_search settings _ = None

abbrev pub wanted_of_task : Task → Option Wanted
wanted_of_task task.Bounds = Some Bounds
wanted_of_task (task.Search settings search) = wanted_of_search settings search
wanted_of_task _ = None

abbrev pub wanted_of_work : command.Work → Option Wanted
wanted_of_work (work.Plain trip workers) = None
wanted_of_work (work.OnMachine path task) = wanted_of_task task

abbrev pub wanted_of_named : {A : Type 0} → List A → command.Work → Option Wanted
wanted_of_named [] work = wanted_of_work work
wanted_of_named (name ∷ names) work = None

abbrev pub wanted_of : Command → Option Wanted
wanted_of (Loops path names work) = wanted_of_named names.items work
wanted_of _ = None

-- both read a machine
abbrev pub on_machine : Wanted → Bool
on_machine wanted = true

-- an outcome of what is wanted, for what the texts of a machine and of loops mean
abbrev pub TellsOf : Wanted → Result MachineData MachineFault → Result (List LoopData) LoopFault → Outcome → Type 0
TellsOf Bounds machine loops outcome = AnswersFile IsBoundsText machine loops outcome
TellsOf (Schedule settings) machine loops outcome = AnswersFile (IsListingText settings.ratio settings.ceiling) machine loops outcome
