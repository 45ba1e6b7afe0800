-- What commands over loops come to where a text or a name is refused.
use Rattle.std.proofs.Common.{◌≡◌, ◌⊎◌, ◌∙◌, inl, inr, ap, refl, sym, subst, ℕ, List, String, string_bytes, Global, Option, Some, None, option_map}
use Rattle.std.specs.Prelude.{Result, Ok, Err}
use Rattle.command_line.specs.declared.command.Task.{Task}
use Rattle.command_line.specs.declared.command.Work.TheVariants.{Plain, OnMachine}
use Rattle.exit_status.specs.Statuses.{refusal_of_machine}
use Rattle.exit_status.specs.declared.status.Status.{Status}
use Rattle.exit_status.specs.declared.status.Status.TheVariants.{NoLoop, OutOfMemory}
use Rattle.file_faults.specs.declared.fault.FileFault.TheVariants as file
use Rattle.reader_faults.specs.declared.loops.LoopFault.{LoopFault}
use Rattle.loop_data.specs.Loops.{LoopData}
use Rattle.machine.specs.MachineText.{machine_of}
use Rattle.machine.specs.Machines.{MachineData}
use Rattle.reader_faults.specs.declared.machine.MachineFault.{MachineFault}
use Rattle.modsched.specs.Engine.{IsNoLoop, LacksOn, LoopsBring}
use Rattle.modsched.specs.Naming.{first_unknown, unknown_in}
use Rattle.modsched.specs.inner.Refusals.{IsUnnamed, NamesNone}

-- the name that is told is the first one that no loop has
told-name : (status : Status) (n : String Global) → (name : String Global) × (status ≡ NoLoop name) × (Some (string_bytes n) ≡ Some (string_bytes name)) → IsNoLoop (string_bytes n) status
told-name status n (name, is, same) = let bytes : string_bytes n ≡ string_bytes name = cc in inr (name, is, sym bytes)

-- .. where one command reads no machine
plain-none : (trip workers : ℕ) (names : List (String Global)) (machine : List ℕ) (loops : List LoopData) (unknown : Option (String Global)) (status : Status)
    → (status ≡ OutOfMemory) ⊎ ((name : String Global) × (status ≡ NoLoop name) × (option_map string_bytes unknown ≡ Some (string_bytes name)))
    → LoopsBring (Plain trip workers) names machine (Ok loops) unknown (Err status)
plain-none trip workers names machine loops (Some n) status (inl memory) = inl memory
plain-none trip workers names machine loops (Some n) status (inr h) = told-name status n h
plain-none trip workers names machine loops None status (inl memory) = (Err file.Memory, tt, ap (λ (s : Status). Err s) memory)
plain-none trip workers names machine loops None status (inr (name, is, none)) = absurd (cc)

pub plain-unnamed : (trip workers : ℕ) (names : List (String Global)) (machine : List ℕ) (loops : Result (List LoopData) LoopFault) (status : Status)
    → IsUnnamed names loops status → LoopsBring (Plain trip workers) names machine loops (unknown_in names loops) (Err status)
plain-unnamed trip workers names machine (Err fault) status (inl memory) = (Err file.Memory, tt, ap (λ (s : Status). Err s) memory)
plain-unnamed trip workers names machine (Err fault) status (inr is) = (Err (file.Loops fault), refl, ap (λ (s : Status). Err s) is)
plain-unnamed trip workers names machine (Ok loops) status h = plain-none trip workers names machine loops (first_unknown names loops) status h

-- .. and where another one does, whose machine's text is refused
refused-at : (path : String Global) (task : Task) (names : List (String Global)) (machine : List ℕ) (loops : Result (List LoopData) LoopFault) (unknown : Option (String Global))
    (meaning : Result MachineData MachineFault) (fault : MachineFault) (status : Status) → machine_of machine ≡ meaning → meaning ≡ Err fault → status ≡ refusal_of_machine fault
    → LoopsBring (OnMachine path task) names machine loops unknown (Err status)
refused-at path task names machine loops None meaning fault status at is by =
    let whole : machine_of machine ≡ Err fault = at ∙ is in
    (Err (file.Machine fault), rw whole refl, ap (λ (s : Status). Err s) by)
refused-at path task names machine loops (Some name) meaning fault status at is by =
    let whole : machine_of machine ≡ Err fault = at ∙ is in
    let lacks : LacksOn (Err fault) (string_bytes name) status = inr by in
    subst (λ (m : Result MachineData MachineFault). LacksOn m (string_bytes name) status) (sym whole) lacks

memory-at : (path : String Global) (task : Task) (names : List (String Global)) (machine : List ℕ) (loops : Result (List LoopData) LoopFault) (unknown : Option (String Global))
    (meaning : Result MachineData MachineFault) (status : Status) → machine_of machine ≡ meaning → status ≡ OutOfMemory
    → LoopsBring (OnMachine path task) names machine loops unknown (Err status)
memory-at path task names machine loops None meaning status at memory = (Err file.Memory, tt, ap (λ (s : Status). Err s) memory)
memory-at path task names machine loops (Some name) (Err fault) status at memory = subst (λ (m : Result MachineData MachineFault). LacksOn m (string_bytes name) status) (sym at) (inl memory)
memory-at path task names machine loops (Some name) (Ok m) status at memory = subst (λ (m : Result MachineData MachineFault). LacksOn m (string_bytes name) status) (sym at) (inl memory)

pub machine-refused : (path : String Global) (task : Task) (names : List (String Global)) (machine : List ℕ) (loops : Result (List LoopData) LoopFault) (status : Status)
    → (status ≡ OutOfMemory) ⊎ ((fault : MachineFault) × (machine_of machine ≡ Err fault) × (status ≡ refusal_of_machine fault))
    → LoopsBring (OnMachine path task) names machine loops (unknown_in names loops) (Err status)
machine-refused path task names machine loops status (inl memory) = memory-at path task names machine loops (unknown_in names loops) (machine_of machine) status refl memory
machine-refused path task names machine loops status (inr (fault, is, by)) = refused-at path task names machine loops (unknown_in names loops) (machine_of machine) fault status refl is by

-- .. or no loop has a name
named-none : (path : String Global) (task : Task) (names : List (String Global)) (machine : List ℕ) (m : MachineData) (loops : List LoopData) (unknown : Option (String Global)) (status : Status)
    → machine_of machine ≡ Ok m → (name : String Global) × (status ≡ NoLoop name) × (option_map string_bytes unknown ≡ Some (string_bytes name))
    → LoopsBring (OnMachine path task) names machine (Ok loops) unknown (Err status)
named-none path task names machine m loops (Some n) status at h =
    subst (λ (r : Result MachineData MachineFault). LacksOn r (string_bytes n) status) (sym at) (told-name status n h)
named-none path task names machine m loops None status at (name, is, none) = absurd (cc)

pub machine-unnamed : (path : String Global) (task : Task) (names : List (String Global)) (machine : List ℕ) (m : MachineData) (loops : Result (List LoopData) LoopFault) (status : Status)
    → machine_of machine ≡ Ok m → IsUnnamed names loops status → LoopsBring (OnMachine path task) names machine loops (unknown_in names loops) (Err status)
machine-unnamed path task names machine m loops status at (inl memory) = memory-at path task names machine loops (unknown_in names loops) (machine_of machine) status refl memory
machine-unnamed path task names machine m (Err fault) status at (inr is) = (Err (file.Loops fault), rw at refl, ap (λ (s : Status). Err s) is)
machine-unnamed path task names machine m (Ok loops) status at (inr h) = named-none path task names machine m loops (first_unknown names loops) status at h

-- the status of a name that no loop has, of the loops of a text
pub unnamed-by : (names : List (String Global)) (loops : List LoopData) (meaning : Result (List LoopData) LoopFault) (name : String Global) (bytes : List ℕ) (status : Status)
    → Ok loops ≡ meaning → Some name ≡ first_unknown names loops → bytes ≡ string_bytes name → IsNoLoop bytes status → IsUnnamed names meaning status
unnamed-by names loops meaning name bytes status is first same (inl memory) = inl memory
unnamed-by names loops meaning name bytes status is first same (inr (other, by, told)) =
    let bytes_of : option_map string_bytes (first_unknown names loops) ≡ Some (string_bytes other) =
    ap (option_map string_bytes) (sym first) ∙ ap (λ (t : List ℕ). Some t) (sym same ∙ sym told) in
    let none : NamesNone names (Ok loops) status = (other, by, bytes_of) in
    inr (subst (λ (m : Result (List LoopData) LoopFault). NamesNone names m status) is none)
