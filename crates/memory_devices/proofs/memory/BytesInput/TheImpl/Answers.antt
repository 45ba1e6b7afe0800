use Rattle.std.proofs.Common.{ℕ, refl, Result, Ok, Err, IsOk, OnOk, OnErr}
use Rattle.devices.specs.declared.device.Fault.{Fault}
use Rattle.memory_devices.proofs.memory.BytesInput.TheImpl.Goals as goal

-- what holds anyway
on_ok : (p : Type 0) (r : Result ℕ Fault) → p → OnOk r p
on_ok p (Ok n) h = h
on_ok p (Err fault) h = tt

-- of what never fails
on_fault : (p : Type 0) (r : Result ℕ Fault) → IsOk r → OnErr r p
on_fault p (Ok n) ok = tt
on_fault p (Err fault) ok = absurd (cc)

pub read-tells : goal.read-tells
read-tells g c = record {
  room = c.ensures.room;
  reads = c.ensures.reads;
  fine = on_ok _ c.result refl;
  fault = on_fault _ c.result c.ensures.never;
}
