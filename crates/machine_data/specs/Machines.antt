-- Machines as data.
use Rattle.std.specs.Prelude.{◌≡◌, ◌≢◌, ℕ, ◌<◌, ◌≤◌, ◌==◌, ◌&&◌, ◌||◌, Bool, true, false, List, [], ◌∷◌, length, Option, Some, slice_get}
use Rattle.machine_data.specs.declared.limits.TheConstants.{MAX_LATENCY, MAX_NAME, MAX_REGISTERS, MAX_UNITS}
use Rattle.std.specs.Char.{is_ascii_lowercase, is_ascii_digit}
use Rattle.std.specs.List.{All, AllPairs, list_all}
use Rattle.std.specs.Option.{option_flatten}
use Rattle.machine_data.specs.declared.alternative.Row.{Row}
use Rattle.machine_data.specs.declared.opcode.Opcode.{Opcode}
use Rattle.machine_data.specs.Alternative.{AreAlternatives}
use Rattle.machine_data.specs.Opcodes.{opcode_number}

-- how operations of one opcode are issued: the latency in cycles, and the alternatives
pub record OperationData : Type 0 where
  pub latency : ℕ
  pub alternatives : List (List Row)

-- the names of the units, the number of rotating registers and, for each opcode by its number, its table where it has one
pub record MachineData : Type 0 where
  pub units : List (List ℕ)
  pub registers : ℕ
  pub tables : List (Option OperationData)

-- the table of an opcode
abbrev pub table_of : MachineData → Opcode → Option OperationData
table_of machine opcode = option_flatten (slice_get machine.tables (opcode_number opcode))

-- a latency of 1 to 64 cycles, and 1 to 8 alternatives
pub record IsOperation (table : OperationData) : Type 0 where
  pub latency_some : 0 < table.latency
  pub latency_few : table.latency ≤ MAX_LATENCY
  pub alternatives : AreAlternatives table.alternatives
  pub alternatives_few : length table.alternatives ≤ 8

-- each row of the table is of one of the machine's first units
abbrev pub UsesUnits : ℕ → OperationData → Type 0
UsesUnits units table = All (λ rows. All (λ r. r.unit < units) rows) table.alternatives

-- a byte that a unit's name may go on with: a lower-case letter, a digit or a low line
abbrev pub is_unit_byte : ℕ → Bool
is_unit_byte c = is_ascii_lowercase c || is_ascii_digit c || (c == 95)

-- a unit's name, of any length: it begins with a lower-case letter
abbrev pub is_unit_word : List ℕ → Bool
is_unit_word [] = false
is_unit_word (c ∷ cs) = is_ascii_lowercase c && list_all is_unit_byte cs

-- a unit's name, of at most 16 bytes
pub record IsUnitName (name : List ℕ) : Type 0 where
  pub formed : is_unit_word name ≡ true
  pub short : length name ≤ MAX_NAME

-- 1 to 64 units of different names, 1 to 256 registers, and a table or none for each of the 13 opcodes, over these units
pub record IsMachine (machine : MachineData) : Type 0 where
  pub units_some : 0 < length machine.units
  pub units_few : length machine.units ≤ MAX_UNITS
  pub units_named : All IsUnitName machine.units
  pub units_different : AllPairs (λ a b. a ≢ b) machine.units
  pub registers_some : 0 < machine.registers
  pub registers_few : machine.registers ≤ MAX_REGISTERS
  pub opcodes : length machine.tables ≡ 13
  pub tables : (opcode : Opcode) (table : OperationData) → table_of machine opcode ≡ Some table → IsOperation table × UsesUnits (length machine.units) table
