-- What a small program comes to.
use Rattle.std.specs.Prelude.{◌≡◌, ℕ, Bool, if◌then◌else◌, List, [], Option, Some, Result, Ok, Err}
use Rattle.reader_faults.specs.declared.machine.MachineFault.{MachineFault}
use Rattle.machine.specs.Machines.{MachineData}
use Rattle.machine.specs.MachineText.{machine_of}
use Rattle.loop_data.specs.Loops.{LoopData}
use Rattle.reader_faults.specs.declared.loops.LoopFault.{LoopFault}
use Rattle.loop_reader.specs.Meaning.{loops_in}
use Rattle.exit_status.specs.Statuses.{refusal_of_file}
use Rattle.exit_status.specs.Writing.{EndsWritten, verdict_of_met}
use Rattle.exit_status.specs.declared.status.Status.{Status}
use Rattle.file_faults.specs.declared.fault.FileFault.{FileFault}
use Rattle.written.specs.Written.{Written}

-- what is had of a machine's text: what the input had left, or nothing where none is needed
abbrev pub machine_for : Bool → Option (List ℕ) → Option (List ℕ)
machine_for on_machine left = if on_machine then left else Some []

-- the run brings about one of the outcomes for the bytes that the inputs had left, where these are known
abbrev pub IsDone : Bool → (Result MachineData MachineFault → Result (List LoopData) LoopFault → Result Written FileFault → Type 0)
    → Option (List ℕ) → Option (List ℕ) → (Result Written FileFault → Type 0) → Type 0
IsDone on_machine Tells machine loops IsBrought =
    (machine_bytes loops_bytes : List ℕ) → machine_for on_machine machine ≡ Some machine_bytes → loops ≡ Some loops_bytes
    → (outcome : Result Written FileFault) × Tells (machine_of machine_bytes) (loops_in loops_bytes) outcome × IsBrought outcome

-- the run ended as its outcome says: with a text that is written, or with the status of a refusal and nothing written
abbrev pub EndsAs : Result Written FileFault → Option (List ℕ) → Option (List ℕ) → Status → Type 0
EndsAs (Ok written) before after ended = EndsWritten written.text (verdict_of_met written.all_met) before after ended
EndsAs (Err fault) before after ended = (ended ≡ refusal_of_file fault) × (after ≡ before)
