-- The operations of a loop on a machine: the table of each statement's opcode, and the alternatives that it gives.
use Rattle.std.specs.Prelude.{ℕ, is_none, List, [], ◌∷◌, map, find, Option, Some, None}
use Rattle.machine_data.specs.declared.alternative.Row.{Row}
use Rattle.machine_data.specs.declared.opcode.Opcode.{Opcode}
use Rattle.machine_data.specs.Machines.{MachineData, OperationData, table_of}
use Rattle.loop_data.specs.declared.language.statement.Statement.{Statement}
use Rattle.loop_data.specs.Loops.{LoopData}

-- the opcodes of a loop's statements
abbrev pub opcodes_of : LoopData → List Opcode
opcodes_of loop = map (λ (s : Statement). s.opcode) loop.statements

-- the opcode of the first statement whose opcode the machine has no table for
abbrev pub first_without_table : MachineData → LoopData → Option Opcode
first_without_table machine loop = find (λ opcode. is_none (table_of machine opcode)) (opcodes_of loop)

abbrev pub lacking_or : List ℕ → Option Opcode → Option (List ℕ × Opcode) → Option (List ℕ × Opcode)
lacking_or name None rest = rest
lacking_or name (Some opcode) rest = Some (name, opcode)

-- the name of the first of these loops that has a statement whose opcode the machine has no table for, with that opcode
abbrev pub first_lacking : MachineData → List LoopData → Option (List ℕ × Opcode)
first_lacking machine [] = None
first_lacking machine (loop ∷ loops) = lacking_or loop.name (first_without_table machine loop) (first_lacking machine loops)

-- the alternatives that a table gives
abbrev pub alternatives_in : Option OperationData → List (List Row)
alternatives_in None = []
alternatives_in (Some table) = table.alternatives

-- the alternatives of each operation of a loop
abbrev pub operations_of : MachineData → LoopData → List (List (List Row))
operations_of machine loop = map (λ opcode. alternatives_in (table_of machine opcode)) (opcodes_of loop)
