-- What a call answered that needs a table for each opcode of a loop.
use Rattle.std.specs.Prelude.{◌≡◌, Option, Some, None, Result, Ok, Err}
use Rattle.machine_data.specs.declared.opcode.Opcode.{Opcode}
use Rattle.graph.specs.declared.fault.GraphFault.{GraphFault}
use Rattle.graph.specs.declared.fault.GraphFault.TheVariants.{NoTable, Memory}

-- where an opcode has no table, the first such is answered, and else a value with this property, unless memory ran out
abbrev pub TablesAnswer : {A : Type 0} → Option Opcode → (A → Type 0) → Result A GraphFault → Type 0
TablesAnswer missing IsRight (Err Memory) = Unit {0}
TablesAnswer (Some opcode) IsRight result = result ≡ Err (NoTable opcode)
TablesAnswer None IsRight (Ok value) = IsRight value
TablesAnswer None IsRight (Err (NoTable opcode)) = ⊥
