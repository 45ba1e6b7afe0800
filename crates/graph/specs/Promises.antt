-- What a schedule that keeps each dependence of a loop promises for the instances of its iterations.
use Rattle.std.specs.Prelude.{◌≡◌, ℕ, ℤ, ◌+◌, ◌*◌, ◌≤◌, List, [], slice_index}
use Rattle.std.specs.List.{All}
use Rattle.machine_data.specs.declared.opcode.Opcode.TheVariants.{Load, Store}
use Rattle.loop_data.specs.Loops.{LoopData, IsLoop}
use Rattle.edges.specs.Edges.{EdgeData}
use Rattle.edges.specs.Schedules.{KeepsEdge}
use Rattle.walks.specs.Walks.{IsWalk, distance_of}
use Rattle.graph.specs.Dependences.{Dependence, Uses, Touches, HasOpcode, ComesFirst}

-- the cycle in which the instance of an operation in an iteration is issued
abbrev pub issue_of : ℕ → List ℕ → ℕ → ℕ → ℕ
issue_of ii times op iteration = slice_index times op + ii * iteration

-- at the interval, the times keep every dependence of the loop
abbrev pub KeepsDependences : LoopData → List ℕ → ℕ → List ℕ → Type 0
KeepsDependences loop latencies ii times = (e : EdgeData) → Dependence loop latencies e → KeepsEdge ii times e

-- the instances of two operations in two iterations touch one cell of one array, the first one before the second in the plain run
pub record InOrder (loop : LoopData) (p i q j : ℕ) : Type 0 where
  pub array : ℕ
  pub cell : ℤ
  pub first : Touches loop p i array cell
  pub second : Touches loop q j array cell
  pub order : ComesFirst p i q j

-- a value has landed when a later instance uses it
abbrev pub ValuesInTime : Type 0
ValuesInTime = (loop : LoopData) (latencies : List ℕ) (ii : ℕ) (times : List ℕ) → KeepsDependences loop latencies ii times
    → (p q distance iteration : ℕ) → Uses loop q p distance
    → issue_of ii times p iteration + slice_index latencies p ≤ issue_of ii times q (iteration + distance)

-- a store has landed when a later load reads its cell
abbrev pub StoresInTime : Type 0
StoresInTime = (loop : LoopData) (latencies : List ℕ) (ii : ℕ) (times : List ℕ) → KeepsDependences loop latencies ii times
    → (p i q j : ℕ) → InOrder loop p i q j → HasOpcode loop p Store → HasOpcode loop q Load
    → issue_of ii times p i + slice_index latencies p ≤ issue_of ii times q j

-- a load has read its cell before a later store lands on it
abbrev pub LoadsInTime : Type 0
LoadsInTime = (loop : LoopData) (latencies : List ℕ) (ii : ℕ) (times : List ℕ) → KeepsDependences loop latencies ii times
    → (p i q j : ℕ) → InOrder loop p i q j → HasOpcode loop p Load → HasOpcode loop q Store
    → issue_of ii times p i + 1 ≤ issue_of ii times q j + slice_index latencies q

-- stores land on a cell in their order
abbrev pub StoresInOrder : Type 0
StoresInOrder = (loop : LoopData) (latencies : List ℕ) (ii : ℕ) (times : List ℕ) → KeepsDependences loop latencies ii times
    → (p i q j : ℕ) → InOrder loop p i q j → HasOpcode loop p Store → HasOpcode loop q Store
    → issue_of ii times p i + slice_index latencies p + 1 ≤ issue_of ii times q j + slice_index latencies q

-- the walk without edges is the only closed walk of distance 0
abbrev pub CircuitsTakeIterations : Type 0
CircuitsTakeIterations = (loop : LoopData) (latencies : List ℕ) (edges : List EdgeData) → IsLoop loop → All (Dependence loop latencies) edges
    → (p : ℕ) (walk : List EdgeData) → IsWalk edges p walk p → distance_of walk ≡ 0 → walk ≡ []
