-- What calls with texts hand over.
use Rattle.std.proofs.Common.{◌≡◌, ℕ, List, refl, inl, inr, true}
use Rattle.std.specs.Prelude.{◌⊎◌, Err}
use Rattle.reader_faults.specs.declared.machine.MachineFault.{MachineFault}
use Rattle.reader_faults.specs.declared.machine.MachineFault.TheVariants as machine_fault
use Rattle.reader_faults.specs.declared.loops.LoopFault.{LoopFault}
use Rattle.reader_faults.specs.declared.loops.LoopFaultKind.{LoopFaultKind}
use Rattle.reader_faults.specs.declared.loops.LoopFaultKind.TheVariants as kinds
use Rattle.file_faults.specs.declared.fault.FileFault.{FileFault}
use Rattle.file_faults.specs.declared.fault.FileFault.TheVariants.{Machine, Loops, NoTable, Memory}
use Rattle.exit_status.specs.Statuses.{has_line, loops_status, refusal_of_file, refusal_of_machine}
use Rattle.printouts.specs.Outcomes.{Outcome}
use Rattle.capi.specs.declared.telling.Told.{Told}
use Rattle.capi.specs.Texts.{Hands, HandsBrought, HandsNothing, HandsRefusal}

-- each refusal has a line
loud_machine : (f : MachineFault) → has_line (refusal_of_machine f) ≡ true
loud_machine machine_fault.Memory = refl
loud_machine machine_fault.NotUtf8 = refl
loud_machine machine_fault.NotToml = refl
loud_machine (machine_fault.MissingKey k) = refl
loud_machine (machine_fault.WrongType k) = refl
loud_machine (machine_fault.UnknownKey k) = refl
loud_machine (machine_fault.UnknownUnit k) = refl
loud_machine (machine_fault.UnknownOpcode k) = refl
loud_machine (machine_fault.RepeatedUnit k) = refl
loud_machine (machine_fault.RepeatedRow k) = refl
loud_machine (machine_fault.Limit k) = refl

loud_loops : (kind : LoopFaultKind) (f : LoopFault) → has_line (loops_status kind f) ≡ true
loud_loops kinds.Memory f = refl
loud_loops kinds.Syntax f = refl
loud_loops kinds.Limit f = refl
loud_loops kinds.RepeatedName f = refl
loud_loops kinds.UnknownName f = refl
loud_loops kinds.UseBeforeDefinition f = refl
loud_loops kinds.MissingInit f = refl
loud_loops kinds.NoEnd f = refl

pub loud : (fault : FileFault) → has_line (refusal_of_file fault) ≡ true
loud (Machine f) = loud_machine f
loud (Loops f) = loud_loops f.kind f
loud (NoTable name opcode) = refl
loud Memory = refl

-- a refusal is handed over by its line, or memory ran out
pub refused : (fault : FileFault) (before after : List ℕ) (told : Told) (status : ℕ) → ¬ (fault ≡ Memory)
    → HandsRefusal fault before after told status ⊎ HandsNothing before after told status → Hands (Err fault) before after told status ⊎ HandsNothing before after told status
refused (Machine f) before after told status other h = h
refused (Loops f) before after told status other h = h
refused (NoTable name opcode) before after told status other h = h
refused Memory before after told status other h = absurd (other refl)

-- what was printed is brought about by the texts, and so is the answer that memory ran out
pub brought : (IsBrought : Outcome → Type 0) (printed : Outcome) (before after : List ℕ) (told : Told) (status : ℕ)
    → IsBrought printed → IsBrought (Err Memory) → Hands printed before after told status ⊎ HandsNothing before after told status → HandsBrought IsBrought before after told status
brought IsBrought printed before after told status is none h = elim h [
  | inl handed ↦ record { outcome = printed; is_brought = is; hands = handed }
  | inr nothing ↦ record { outcome = Err Memory; is_brought = none; hands = nothing }
]
