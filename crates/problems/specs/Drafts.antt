-- Drafts of scheduling problems: when one is well formed, and what it comes to.
use Rattle.std.specs.Prelude.{◌≡◌, ◌≢◌, ◌⊎◌, ℕ, pos, neg_ℤ, ◌<◌, ◌≤◌, ◌-ℤ◌, ◌≤ℤ◌, List, [], ◌++◌, length, map, slice_index}
use Rattle.machine_data.specs.declared.limits.TheConstants.{MAX_DELAY, MAX_DISTANCE, MAX_FILES, MAX_KINDS, MAX_LATENCY, MAX_OFFSET, MAX_OPERATION_ALTERNATIVES, MAX_ORDERS, MAX_ORDER_DISTANCE, MAX_READS, MAX_REGISTERS, MAX_ROWS, MAX_STATEMENTS, MAX_UNITS, MAX_VALUES}
use Rattle.std.specs.List.{All, AllPairs, slice_index_or}
use Rattle.smallvec.specs.SmallVec.{SmallVec}
use Rattle.machine_data.specs.declared.alternative.Row.{Row}
use Rattle.edges.specs.Edges.{EdgeData}
use Rattle.registers.specs.declared.value.Read.{Read}
use Rattle.registers.specs.declared.value.Value.{Value as PlainValue}
use Rattle.problems.specs.declared.draft.File.{File}
use Rattle.problems.specs.declared.draft.File.TheVariants.{Rotating, Unallotted}
use Rattle.problems.specs.declared.draft.Hold.{Hold}
use Rattle.problems.specs.declared.draft.Kind.{Kind}
use Rattle.problems.specs.declared.draft.Value.{Value}
use Rattle.problems.specs.declared.draft.Order.{Order}
use Rattle.problems.specs.declared.draft.Draft.{Draft}

-- the operation that makes the value with a number
abbrev pub maker_of : Draft → ℕ → ℕ
maker_of draft number = slice_index (map (λ (v : Value). v.maker) draft.values.items) number

-- how many cycles after its operation's issue the value with a number lands
abbrev pub lands_of : Draft → ℕ → ℕ
lands_of draft number = slice_index (map (λ (v : Value). v.lands) draft.values.items) number

-- well-formed drafts

-- no names, or one for each of `count`, all different
pub record AreNames (count : ℕ) (names : List (List ℕ)) : Type 0 where
  pub each : (length names ≡ 0) ⊎ (length names ≡ count)
  pub different : AllPairs (λ a b. a ≢ b) names

abbrev pub IsFile : File → Type 0
IsFile (Rotating registers) = (1 ≤ registers) × (registers ≤ MAX_REGISTERS)
IsFile Unallotted = Unit {0}

-- 1 to 16 different rows, of the first `count` units and at offsets of 0 to 63 cycles
pub record AreRows (count : ℕ) (rows : List Hold) : Type 0 where
  pub some : 1 ≤ length rows
  pub few : length rows ≤ MAX_ROWS
  pub units : All (λ (row : Hold). row.unit < count) rows
  pub offsets : All (λ (row : Hold). row.offset ≤ MAX_OFFSET) rows
  pub different : AllPairs (λ a b. a ≢ b) rows

pub record IsKind (units : ℕ) (kind : Kind) : Type 0 where
  pub latency_some : 1 ≤ kind.latency
  pub latency_few : kind.latency ≤ MAX_LATENCY
  pub alternatives_some : 1 ≤ length kind.alternatives.items
  pub alternatives_few : length kind.alternatives.items ≤ MAX_OPERATION_ALTERNATIVES
  pub alternatives : All (λ (rows : SmallVec Hold). AreRows units rows.items) kind.alternatives.items

pub record IsValue (operations files : ℕ) (value : Value) : Type 0 where
  pub maker : value.maker < operations
  pub lands : value.lands ≤ MAX_LATENCY
  pub file : value.file < files

pub record IsRead (draft : Draft) (reading : Read) : Type 0 where
  pub value : reading.value < length draft.values.items
  pub reader : reading.reader < length draft.operations.items
  pub distance : reading.distance ≤ MAX_DISTANCE
  pub offset : reading.offset ≤ MAX_OFFSET
  pub forward : reading.distance ≡ 0 → maker_of draft reading.value < reading.reader

pub record IsOrder (operations : ℕ) (order : Order) : Type 0 where
  pub from : order.from < operations
  pub to : order.to < operations
  pub delay_low : neg_ℤ MAX_DELAY ≤ℤ order.delay
  pub delay_high : order.delay ≤ℤ MAX_DELAY
  pub distance : order.distance ≤ MAX_ORDER_DISTANCE
  pub forward : order.distance ≡ 0 → order.from < order.to

pub record AreCounts (draft : Draft) : Type 0 where
  pub units_some : 1 ≤ draft.units
  pub units_few : draft.units ≤ MAX_UNITS
  pub files_few : length draft.files.items ≤ MAX_FILES
  pub kinds_some : 1 ≤ length draft.kinds.items
  pub kinds_few : length draft.kinds.items ≤ MAX_KINDS
  pub operations_some : 1 ≤ length draft.operations.items
  pub operations_few : length draft.operations.items ≤ MAX_STATEMENTS
  pub values_few : length draft.values.items ≤ MAX_VALUES
  pub reads_few : length draft.reads.items ≤ MAX_READS
  pub orders_few : length draft.orders.items ≤ MAX_ORDERS

pub record AreAllNames (draft : Draft) : Type 0 where
  pub units : AreNames draft.units draft.names.units.items
  pub files : AreNames (length draft.files.items) draft.names.files.items
  pub kinds : AreNames (length draft.kinds.items) draft.names.kinds.items
  pub operations : AreNames (length draft.operations.items) draft.names.operations.items
  pub values : AreNames (length draft.values.items) draft.names.values.items

pub record IsWellFormed (draft : Draft) : Type 0 where
  pub counts : AreCounts draft
  pub names : AreAllNames draft
  pub files : All IsFile draft.files.items
  pub kinds : All (IsKind draft.units) draft.kinds.items
  pub operations : All (λ kind. kind < length draft.kinds.items) draft.operations.items
  pub values : All (IsValue (length draft.operations.items) (length draft.files.items)) draft.values.items
  pub reads : All (IsRead draft) draft.reads.items
  pub orders : All (IsOrder (length draft.operations.items)) draft.orders.items

-- what a draft comes to

-- the latency of each operation: that of its kind
abbrev pub latencies_of : Draft → List ℕ
latencies_of draft = map (λ kind. slice_index (map (λ (k : Kind). k.latency) draft.kinds.items) kind) draft.operations.items

abbrev pub row_of : Hold → Row
row_of hold = record { unit = hold.unit; offset = hold.offset }

-- the alternatives of a kind
abbrev pub alternatives_of : Kind → List (List Row)
alternatives_of kind = map (λ (rows : SmallVec Hold). map row_of rows.items) kind.alternatives.items

-- the alternatives of each operation: those of its kind
abbrev pub operations_of : Draft → List (List (List Row))
operations_of draft = map (λ kind. slice_index_or (map alternatives_of draft.kinds.items) kind []) draft.operations.items

-- a read waits for its value to land
abbrev pub read_edge : Draft → Read → EdgeData
read_edge draft reading = record {
  from = maker_of draft reading.value;
  to = reading.reader;
  distance = reading.distance;
  delay = pos (lands_of draft reading.value) -ℤ pos reading.offset;
}

abbrev pub order_edge : Order → EdgeData
order_edge order = record { from = order.from; to = order.to; distance = order.distance; delay = order.delay }

-- what has to wait for what: one edge for each read and for each order
abbrev pub edges_of : Draft → List EdgeData
edges_of draft = map (read_edge draft) draft.reads.items ++ map order_edge draft.orders.items

-- the values without their register files
abbrev pub plain_values : Draft → List PlainValue
plain_values draft = map (λ (v : Value). record { maker = v.maker; lands = v.lands; out = v.out }) draft.values.items
