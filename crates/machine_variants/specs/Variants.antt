-- Variants of a machine: a unit twice, a latency that is one cycle less, or another number of registers.
use Rattle.std.specs.Prelude.{ℕ, ◌+◌, ◌-◌, ◌*◌, ◌/◌, ◌<◌, ◌≤◌, ◌==◌, ◌&&◌, ◌||◌, not, nat_lt, Bool, true, false, if◌then◌else◌, codes, decimal, List, ◌++◌, length, map, filter, Option, option_map}
use Rattle.std.specs.List.{list_any, range_with_len}
use Rattle.machine_data.specs.declared.alternative.Row.{Row}
use Rattle.machine_data.specs.declared.opcode.Opcode.{Opcode}
use Rattle.machine_data.specs.Machines.{MachineData, OperationData, table_of}
use Rattle.machine_data.specs.Opcodes.{all_opcodes, opcode_number}
use Rattle.loop_data.specs.declared.language.statement.Statement.{Statement}
use Rattle.loop_data.specs.Loops.{LoopData}
use Rattle.graph.specs.Dependences.{latency_in}
use Rattle.graph.specs.Units.{alternatives_in}
use Rattle.machine_variants.specs.declared.variant.Variant.{Variant}
use Rattle.machine_variants.specs.declared.variant.Variant.TheVariants.{Doubled, Shortened, Registers}

-- the machine of a variant

-- some row takes the unit
abbrev pub takes : ℕ → List Row → Bool
takes unit rows = list_any (λ (r : Row). r.unit == unit) rows

-- a row with a new unit in the place of a unit
abbrev pub moved_row : ℕ → ℕ → Row → Row
moved_row unit new row = record { unit = if row.unit == unit then new else row.unit; offset = row.offset }

-- all rows of an alternative so
abbrev pub moved : ℕ → ℕ → List Row → List Row
moved unit new rows = map (moved_row unit new) rows

-- the alternatives and, after all of them, a copy of each that takes the unit, with the new unit in its place
abbrev pub with_copies : ℕ → ℕ → List (List Row) → List (List Row)
with_copies unit new alternatives = alternatives ++ map (moved unit new) (filter (takes unit) alternatives)

abbrev pub doubled_table : ℕ → ℕ → OperationData → OperationData
doubled_table unit new table = record { latency = table.latency; alternatives = with_copies unit new table.alternatives }

abbrev pub shortened_table : OperationData → OperationData
shortened_table table = record { latency = table.latency - 1; alternatives = table.alternatives }

abbrev pub is_opcode : Opcode → Opcode → Bool
is_opcode one other = opcode_number one == opcode_number other

abbrev pub shortened_where : Bool → Option OperationData → Option OperationData
shortened_where here table = if here then option_map shortened_table table else table

-- `count` names, all different: `u0`, `u1` ..
abbrev pub numbered : ℕ → List (List ℕ)
numbered count = map (λ k. codes "u" ++ decimal k) (range_with_len 0 count)

-- the machine with the unit of a number twice, the new one after all others; with the latency of an opcode one cycle less; or
-- with another number of registers. Where there is a new unit, all are named anew, so that no two have one name: names play no
-- part in a schedule
abbrev pub varied : Variant → MachineData → MachineData
varied (Doubled unit) machine = record {
  units = numbered (length machine.units + 1);
  registers = machine.registers;
  tables = map (λ opcode. option_map (doubled_table unit (length machine.units)) (table_of machine opcode)) all_opcodes;
}
varied (Shortened opcode) machine = record {
  units = machine.units;
  registers = machine.registers;
  tables = map (λ other. shortened_where (is_opcode other opcode) (table_of machine other)) all_opcodes;
}
varied (Registers number) machine = record { units = machine.units; registers = number; tables = machine.tables }

-- a new unit passes a limit: there are 64 already, or some opcode would have more than 8 alternatives. Nothing else passes one
abbrev pub passes_limit : MachineData → Variant → Bool
passes_limit machine (Doubled unit) =
    nat_lt 63 (length machine.units)
    || list_any (λ opcode. nat_lt 8 (length (with_copies unit (length machine.units) (alternatives_in (table_of machine opcode))))) all_opcodes
passes_limit machine (Shortened opcode) = false
passes_limit machine (Registers number) = false

-- the variants of a machine

-- the unit is there; the latency is above 1; there are 1 to 256 registers
abbrev pub IsVariantOf : MachineData → Variant → Type 0
IsVariantOf machine (Doubled unit) = unit < length machine.units
IsVariantOf machine (Shortened opcode) = 1 < latency_in (table_of machine opcode)
IsVariantOf machine (Registers number) = (1 ≤ number) × (number ≤ 256)

-- half as many registers, rounded down, one less, one more, twice as many or 256, where that is another number than there are
abbrev pub is_other_number : ℕ → ℕ → Bool
is_other_number registers number =
    not (number == registers)
    && ((number == registers / 2) || ((number + 1 == registers) || ((number == registers + 1) || ((number == registers * 2) || (number == 256)))))

-- the numbers from 1 to this one
unfoldable pub numbers_to : ℕ → List ℕ
numbers_to last = range_with_len 1 last

-- each unit twice; each latency above 1 one cycle less, by the numbers of the opcodes; and the other numbers of registers from 1 to 256,
-- in ascending order
abbrev pub variants_of : MachineData → List Variant
variants_of machine =
    (map Doubled (range_with_len 0 (length machine.units)) ++ map Shortened (filter (λ opcode. nat_lt 1 (latency_in (table_of machine opcode))) all_opcodes))
    ++ map Registers (filter (is_other_number machine.registers) (numbers_to 256))

-- some operation of the loop has an alternative that takes the unit, or has the opcode. A number of registers concerns every loop
abbrev pub concerns : MachineData → LoopData → Variant → Bool
concerns machine loop (Doubled unit) = list_any (λ (s : Statement). list_any (takes unit) (alternatives_in (table_of machine s.opcode))) loop.statements
concerns machine loop (Shortened opcode) = list_any (λ (s : Statement). is_opcode s.opcode opcode) loop.statements
concerns machine loop (Registers number) = true

-- the variants of a machine that concern a loop
abbrev pub variants_for : MachineData → LoopData → List Variant
variants_for machine loop = filter (concerns machine loop) (variants_of machine)
