-- What a list of times and alternatives breaks first, where it is no schedule. The numbers of each operation are tested first, then the
-- rows of all operations, then the edges, and last the stages.
use Rattle.std.specs.Prelude.{◌≡◌, ◌≢◌, ◌⊎◌, ℕ, pos, ◌+◌, ◌*◌, ◌/◌, ◌<◌, ◌≤◌, ◌+ℤ◌, true, List, [], length, map, Some, slice_get, slice_index}
use Rattle.machine_data.specs.declared.limits.TheConstants.{MAX_STAGES}
use Rattle.std.specs.List.{All, slice_index_or}
use Rattle.machine_data.specs.declared.alternative.Row.{Row}
use Rattle.machine_data.specs.Alternative.{residue_of, rows_meet}
use Rattle.edges.specs.Edges.{EdgeData}
use Rattle.edges.specs.Schedules.{issued_rows, KeepsEdge, KeepsUnits}
use Rattle.schedules.specs.declared.breach.Breach.{Breach}
use Rattle.schedules.specs.declared.breach.Breach.TheVariants.{Count, Time, Alternative, Slot, Edge, Stage}
use Rattle.schedules.specs.Problems.{ProblemData}

-- the times and the alternatives of a list
abbrev pub times_in : List (ℕ × ℕ) → List ℕ
times_in places = map (λ (p : ℕ × ℕ). p.0) places

abbrev pub choices_in : List (ℕ × ℕ) → List ℕ
choices_in places = map (λ (p : ℕ × ℕ). p.1) places

-- ---- numbers
-- an operation's time is below 64 stages of the longest interval, and its alternative is there
pub record IsInRange (operations : List (List (List Row))) (places : List (ℕ × ℕ)) (op : ℕ) : Type 0 where
  pub time : slice_index (times_in places) op < 1048576
  pub alternative : slice_index (choices_in places) op < length (slice_index_or operations op [])

-- there is a place for each operation, and all of them are in range
pub record AreInRange (operations : List (List (List Row))) (places : List (ℕ × ℕ)) : Type 0 where
  pub whole : length places ≡ length operations
  pub each : (op : ℕ) → op < length operations → IsInRange operations places op

-- there is a place for each operation, and those before this one are in range
pub record AreInRangeBefore (operations : List (List (List Row))) (places : List (ℕ × ℕ)) (op : ℕ) : Type 0 where
  pub whole : length places ≡ length operations
  pub there : op < length operations
  pub before : (sooner : ℕ) → sooner < op → IsInRange operations places sooner

-- the first operation that is not in range has too great a time
pub record BreaksTime (problem : ProblemData) (places : List (ℕ × ℕ)) (op : ℕ) : Type 0 where
  pub before : AreInRangeBefore problem.operations places op
  pub late : 1048576 ≤ slice_index (times_in places) op

-- the first operation that is not in range has not got its alternative
pub record BreaksAlternative (problem : ProblemData) (places : List (ℕ × ℕ)) (op : ℕ) : Type 0 where
  pub before : AreInRangeBefore problem.operations places op
  pub time : slice_index (times_in places) op < 1048576
  pub absent : length (slice_index_or problem.operations op []) ≤ slice_index (choices_in places) op

-- ---- rows
-- row i of operation p comes before row j of operation q: rows are taken operation by operation, and within one in the order of its alternative
abbrev pub ComesBefore : ℕ → ℕ → ℕ → ℕ → Type 0
ComesBefore p i q j = (p < q) ⊎ ((p ≡ q) × (i < j))

-- row j of operation q takes the slot of row i of operation p, which comes before it
pub record TakesSlot (ii : ℕ) (operations : List (List (List Row))) (times choices : List ℕ) (p i q j : ℕ) : Type 0 where
  pub row : Row
  pub is_row : slice_get (issued_rows operations choices q) j ≡ Some row
  pub other : Row
  pub is_other : slice_get (issued_rows operations choices p) i ≡ Some other
  pub before : ComesBefore p i q j
  pub meet : rows_meet ii row (slice_index times q) other (slice_index times p) ≡ true

-- the first row that takes the slot of a row before it is one of `later`, and takes this slot of a row of `earlier`
pub record BreaksSlot (problem : ProblemData) (ii : ℕ) (places : List (ℕ × ℕ)) (earlier later unit residue : ℕ) : Type 0 where
  pub in_range : AreInRange problem.operations places
  pub there : later < length problem.operations
  pub i : ℕ
  pub j : ℕ
  pub takes : TakesSlot ii problem.operations (times_in places) (choices_in places) earlier i later j
  pub is_unit : unit ≡ takes.row.unit
  pub is_residue : residue ≡ residue_of ii takes.row (slice_index (times_in places) later)
  pub first : (p k q l : ℕ) → ComesBefore q l later j → TakesSlot ii problem.operations (times_in places) (choices_in places) p k q l → ⊥

-- ---- edges
-- the first edge of a list that the times do not keep: its target is issued `early` cycles too early
pub record IsFirstUnkept (ii : ℕ) (times : List ℕ) (edges : List EdgeData) (edge : EdgeData) (early : ℕ) : Type 0 where
  pub place : ℕ
  pub is_edge : slice_get edges place ≡ Some edge
  pub before : (sooner : ℕ) (e : EdgeData) → sooner < place → slice_get edges sooner ≡ Some e → KeepsEdge ii times e
  pub some : 1 ≤ early
  pub short : pos (slice_index times edge.to + ii * edge.distance + early) ≡ (pos (slice_index times edge.from) +ℤ edge.delay)

-- all rows have slots of their own, and this is the first edge that is not kept
pub record BreaksEdge (problem : ProblemData) (ii : ℕ) (places : List (ℕ × ℕ)) (edge : EdgeData) (early : ℕ) : Type 0 where
  pub in_range : AreInRange problem.operations places
  pub units : KeepsUnits ii problem.operations (times_in places) (choices_in places)
  pub unkept : IsFirstUnkept ii (times_in places) problem.graph.edges edge early

-- ---- stages
-- all rows have slots of their own, all edges are kept, and this is the first operation in stage 64 or later
pub record BreaksStage (problem : ProblemData) (ii : ℕ) (places : List (ℕ × ℕ)) (op : ℕ) : Type 0 where
  pub in_range : AreInRange problem.operations places
  pub units : KeepsUnits ii problem.operations (times_in places) (choices_in places)
  pub edges : All (KeepsEdge ii (times_in places)) problem.graph.edges
  pub there : op < length problem.operations
  pub late : MAX_STAGES ≤ slice_index (times_in places) op / ii
  pub before : (sooner : ℕ) → sooner < op → slice_index (times_in places) sooner / ii < MAX_STAGES

-- ---- the first of all
-- a list of times and alternatives breaks this first
abbrev pub IsFirstBreach : ProblemData → ℕ → List (ℕ × ℕ) → Breach → Type 0
IsFirstBreach problem ii places Count = length places ≢ length problem.operations
IsFirstBreach problem ii places (Time op) = BreaksTime problem places op
IsFirstBreach problem ii places (Alternative op) = BreaksAlternative problem places op
IsFirstBreach problem ii places (Slot earlier later unit residue) = BreaksSlot problem ii places earlier later unit residue
IsFirstBreach problem ii places (Edge edge early) = BreaksEdge problem ii places edge early
IsFirstBreach problem ii places (Stage op) = BreaksStage problem ii places op
