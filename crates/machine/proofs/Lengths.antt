-- A machine text that is too long means what so long a beginning of it means.
use Rattle.std.proofs.Common.{◌≡◌, ◌∙◌, ap, refl, sym, ℕ, ◌<◌, List, length, take, arith, inl, inr}
use Rattle.std.specs.Prelude.{Err, codes}
use Rattle.std.proofs.lemmas.List.{take_all, length-take-le}
use Rattle.std.proofs.lemmas.Bool.{cases_lt, lt-ltb}
use Rattle.reader_faults.specs.declared.machine.MachineFault.TheVariants as machine_fault
use Rattle.machine.specs.MachineText.{machine_of}

too_long : (text : List ℕ) → 1048576 < length text → machine_of text ≡ Err (machine_fault.Limit (codes "text"))
unfolding machine_of
too_long text h = rw (lt-ltb 1048576 (length text) h) refl

pub machine_of-take : (most : ℕ) (bytes : List ℕ) → 1048576 < most → machine_of (take most bytes) ≡ machine_of bytes
machine_of-take most bytes past = elim (cases_lt most (length bytes)) [
  | inl h ↦ let e : length (take most bytes) ≡ most = length-take-le most bytes (omega arith) in
      too_long (take most bytes) (omega (arith, e)) ∙ sym (too_long bytes (omega arith))
  | inr h ↦ ap machine_of (take_all most bytes h)
]
