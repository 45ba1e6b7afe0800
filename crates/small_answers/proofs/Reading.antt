-- What was read of texts tells what the whole texts do.
use Rattle.std.proofs.Common.{◌≡◌, ◌∙◌, ap, subst, ℕ, List, take}
use Rattle.std.specs.Prelude.{Result}
use Rattle.devices.specs.Devices.{most_read}
use Rattle.devices.proofs.Lengths.{past_limit}
use Rattle.reader_faults.specs.declared.loops.LoopFault.{LoopFault}
use Rattle.loop_data.specs.Loops.{LoopData}
use Rattle.loop_reader.specs.Meaning.{loops_in}
use Rattle.loop_reader.proofs.Lengths.{loops_in-take}
use Rattle.machine.specs.MachineText.{machine_of}
use Rattle.machine.proofs.Lengths.{machine_of-take}
use Rattle.machine.specs.Machines.{MachineData}
use Rattle.reader_faults.specs.declared.machine.MachineFault.{MachineFault}
use Rattle.file_faults.specs.declared.fault.FileFault.{FileFault}
use Rattle.written.specs.Written.{Written}

pub tells-read : (Tells : Result MachineData MachineFault → Result (List LoopData) LoopFault → Result Written FileFault → Type 0)
    (machine loops machine_read loops_read : List ℕ) (outcome : Result Written FileFault)
    → machine_read ≡ take most_read machine → loops_read ≡ take most_read loops
    → Tells (machine_of machine_read) (loops_in loops_read) outcome → Tells (machine_of machine) (loops_in loops) outcome
tells-read Tells machine loops machine_read loops_read outcome m l h =
    let on : machine_of machine_read ≡ machine_of machine = ap machine_of m ∙ machine_of-take most_read machine past_limit in
    let of : loops_in loops_read ≡ loops_in loops = ap loops_in l ∙ loops_in-take most_read loops past_limit in
    let first : Tells (machine_of machine_read) (loops_in loops) outcome =
    subst (λ (r : Result (List LoopData) LoopFault). Tells (machine_of machine_read) r outcome) of h in
    subst (λ (r : Result MachineData MachineFault). Tells r (loops_in loops) outcome) on first
