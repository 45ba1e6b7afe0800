-- Lawful modulo schedules.
use Rattle.std.specs.Prelude.{◌≡◌, ℕ, pos, ◌+ℤ◌, ◌≤ℤ◌, ◌+◌, ◌*◌, ◌<◌, true, List, [], length, slice_index}
use Rattle.std.specs.List.{slice_index_or, All}
use Rattle.machine_data.specs.declared.alternative.Row.{Row}
use Rattle.machine_data.specs.Alternative.{rows_meet}
use Rattle.edges.specs.Edges.{EdgeData}

-- the rows by which an operation is issued, where choices has each operation's alternative
abbrev pub issued_rows : List (List (List Row)) → List ℕ → ℕ → List Row
issued_rows operations choices op = slice_index_or (slice_index_or operations op []) (slice_index choices op) []

-- one time and one alternative for each operation
pub record IsPlan (operations : List (List (List Row))) (times choices : List ℕ) : Type 0 where
  pub each_time : length times ≡ length operations
  pub each_choice : length choices ≡ length operations
  pub there : (op : ℕ) → op < length operations → slice_index choices op < length (slice_index_or operations op [])

-- no two rows, of one operation or of two, take one slot at the interval
abbrev pub KeepsUnits : ℕ → List (List (List Row)) → List ℕ → List ℕ → Type 0
KeepsUnits ii operations times choices = (p q i j : ℕ) (r : Row) → p < length operations → q < length operations
    → i < length (issued_rows operations choices p) → j < length (issued_rows operations choices q)
    → rows_meet ii (slice_index_or (issued_rows operations choices p) i r) (slice_index times p)
    (slice_index_or (issued_rows operations choices q) j r) (slice_index times q) ≡ true
    → (p ≡ q) × (i ≡ j)

-- an edge's demand: t(to) + ii * distance ≥ t(from) + delay
abbrev pub KeepsEdge : ℕ → List ℕ → EdgeData → Type 0
KeepsEdge ii times edge = (pos (slice_index times edge.from) +ℤ edge.delay) ≤ℤ pos (slice_index times edge.to + ii * edge.distance)

-- times and alternatives that keep each edge and each unit at the interval
pub record IsLawfulSchedule (ii : ℕ) (operations : List (List (List Row))) (edges : List EdgeData) (times choices : List ℕ) : Type 0 where
  pub plan : IsPlan operations times choices
  pub keeps_units : KeepsUnits ii operations times choices
  pub keeps_edges : All (KeepsEdge ii times) edges
