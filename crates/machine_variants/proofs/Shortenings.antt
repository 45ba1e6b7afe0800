-- Machines with a shorter latency.
use Rattle.std.proofs.Common.{◌≡◌, ◌<◌, ℕ, Bool, true, false, length, refl, sym, ap, ◌∙◌, subst, arith}
use Rattle.std.specs.Prelude.{Option, Some, None}
use Rattle.machine_data.specs.declared.opcode.Opcode.{Opcode}
use Rattle.machine_data.specs.Machines.{IsMachine, IsOperation, MachineData, OperationData, UsesUnits, table_of}
use Rattle.graph.specs.Dependences.{latency_in}
use Rattle.machine_variants.specs.declared.variant.Variant.TheVariants.{Shortened}
use Rattle.machine_variants.specs.Variants.{is_opcode, shortened_where, varied}
use Rattle.machine_variants.proofs.OfOpcodes.{same-opcode, table-at}

abbrev or_else : OperationData → Option OperationData → OperationData
or_else d None = d
or_else d (Some t) = t

-- a table of a machine
abbrev pub IsTable : ℕ → OperationData → Type 0
IsTable units table = IsOperation table × UsesUnits units table

shortened-right : (units : ℕ) (here : Bool) (found : Option OperationData) (table : OperationData) → (here ≡ true → 1 < latency_in found)
    → ((t : OperationData) → found ≡ Some t → IsTable units t) → shortened_where here found ≡ Some table → IsTable units table
shortened-right units true None table more is e = cc
shortened-right units true (Some t) table more is e =
    let r = is t refl in
    let above : 1 < t.latency = more refl in
    let few = r.0.latency_few in
    subst (IsTable units) (ap (or_else t) e)
    (record { latency_some = omega (arith, above); latency_few = omega (arith, few); alternatives = r.0.alternatives; alternatives_few = r.0.alternatives_few }, r.1)
shortened-right units false found table more is e = is table e

-- it is the one opcode whose latency is above 1
pub above-where : (machine : MachineData) (opcode other : Opcode) → 1 < latency_in (table_of machine opcode) → is_opcode other opcode ≡ true → 1 < latency_in (table_of machine other)
above-where machine opcode other above same = subst (λ o. 1 < latency_in (table_of machine o)) (sym (same-opcode other opcode same)) above

pub shortened-machine : (machine : MachineData) (opcode : Opcode) → IsMachine machine → 1 < latency_in (table_of machine opcode) → IsMachine (varied (Shortened opcode) machine)
shortened-machine machine opcode is above = record {
  units_some = is.units_some;
  units_few = is.units_few;
  units_named = is.units_named;
  units_different = is.units_different;
  registers_some = is.registers_some;
  registers_few = is.registers_few;
  opcodes = refl;
  tables = λ other table e.
      shortened-right (length machine.units) (is_opcode other opcode) (table_of machine other) table (above-where machine opcode other above)
      (is.tables other) (sym (table-at (λ o. shortened_where (is_opcode o opcode) (table_of machine o)) other) ∙ e);
}
