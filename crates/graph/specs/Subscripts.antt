-- Dependences told by statements alone: by the subscripts of their cells and by their operands.
use Rattle.std.specs.Prelude.{◌≡◌, ◌⊎◌, ℕ, ℤ, pos, ◌+ℤ◌, ◌-ℤ◌, ◌<◌, ◌≤◌, List, ◌++◌, Some, slice_index, slice_get}
use Rattle.machine_data.specs.declared.limits.TheConstants.{MAX_LATENCY}
use Rattle.std.specs.List.{All, Contains}
use Rattle.machine_data.specs.declared.opcode.Opcode.{Opcode}
use Rattle.machine_data.specs.declared.opcode.Opcode.TheVariants.{Load, Store}
use Rattle.loop_data.specs.declared.language.statement.Statement.{Statement}
use Rattle.loop_data.specs.declared.language.statement.Place.{Place}
use Rattle.loop_data.specs.declared.language.statement.Operand.{Operand}
use Rattle.loop_data.specs.declared.language.statement.Operand.TheVariants.{Constant, Parameter, Value}
use Rattle.edges.specs.Edges.{EdgeData}

-- latencies are 1 to 64 cycles
abbrev pub AreLatencies : List ℕ → Type 0
AreLatencies latencies = All (λ l. (0 < l) × (l ≤ MAX_LATENCY)) latencies

-- the delay of a dependence through memory, by the opcodes and the latencies of the two operations
abbrev pub IsDelay : Opcode → Opcode → ℕ → ℕ → ℤ → Type 0
IsDelay from to latency later delay =
    ((from ≡ Store) × (to ≡ Load) × (delay ≡ pos latency))
    ⊎ (((from ≡ Load) × (to ≡ Store) × (delay ≡ (pos 1 -ℤ pos later)))
    ⊎ ((from ≡ Store) × (to ≡ Store) × (delay ≡ ((pos 1 +ℤ pos latency) -ℤ pos later))))

-- the second statement touches the cell of the first one `e.distance` iterations later, and not before it
pub record IsMemoryEdge (latencies : List ℕ) (p : ℕ) (first : Statement) (q : ℕ) (second : Statement) (e : EdgeData) : Type 0 where
  pub from : e.from ≡ p
  pub to : e.to ≡ q
  pub place : Place
  pub is_place : first.place ≡ Some place
  pub later : Place
  pub is_later : second.place ≡ Some later
  pub same_array : place.array ≡ later.array
  pub distance : place.offset ≡ (later.offset +ℤ pos e.distance)
  pub order : e.distance ≡ 0 → p < q
  pub delay : IsDelay first.opcode second.opcode (slice_index latencies p) (slice_index latencies q) e.delay

-- the values that are read are of the first `n` statements
abbrev pub ReadsBelow : ℕ → Operand → Type 0
ReadsBelow n (Constant value) = Unit {0}
ReadsBelow n (Parameter number) = Unit {0}
ReadsBelow n (Value statement distance) = statement < n

-- the operation uses a value of the other one
pub record IsUse (statements : List Statement) (latencies : List ℕ) (e : EdgeData) : Type 0 where
  pub reader : Statement
  pub is_reader : slice_get statements e.to ≡ Some reader
  pub reads : Contains reader.operands (Value e.from e.distance)
  pub delay : e.delay ≡ pos (slice_index latencies e.from)

-- the operation comes upon the cell of the other one
pub record IsMeeting (statements : List Statement) (latencies : List ℕ) (e : EdgeData) : Type 0 where
  pub first : Statement
  pub is_first : slice_get statements e.from ≡ Some first
  pub second : Statement
  pub is_second : slice_get statements e.to ≡ Some second
  pub edge : IsMemoryEdge latencies e.from first e.to second e

abbrev pub IsFound : List Statement → List ℕ → EdgeData → Type 0
IsFound statements latencies e = IsUse statements latencies e ⊎ IsMeeting statements latencies e

-- the list has grown by dependences
pub record GainsEdges (statements : List Statement) (latencies : List ℕ) (old new : List EdgeData) : Type 0 where
  pub more : List EdgeData
  pub is : new ≡ old ++ more
  pub found : All (IsFound statements latencies) more

-- the list has the edges of these operands of an operation
abbrev pub HasUses : List ℕ → ℕ → List Operand → List EdgeData → Type 0
HasUses latencies to operands list = (from distance : ℕ) → Contains operands (Value from distance)
    → Contains list (record { from = from; to = to; distance = distance; delay = pos (slice_index latencies from) })

-- the list has the edges through memory from the first `n` operations to operation `to`
abbrev pub HasMeetings : List Statement → List ℕ → ℕ → ℕ → List EdgeData → Type 0
HasMeetings statements latencies to n list = (e : EdgeData) → e.to ≡ to → e.from < n → IsMeeting statements latencies e → Contains list e

-- the list has all edges to the first `n` operations
abbrev pub HasAllEdges : List Statement → List ℕ → ℕ → List EdgeData → Type 0
HasAllEdges statements latencies n list = (e : EdgeData) → e.to < n → IsFound statements latencies e → Contains list e
