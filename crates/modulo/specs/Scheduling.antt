-- Iterative modulo scheduling at one interval, as a machine whose steps place one operation each (B. R. Rau, HPL-94-115).
use Rattle.std.specs.Prelude.{◌≡◌, ◌≢◌, ◌⊎◌, ℕ, pos, ◌+◌, ◌*◌, ◌<◌, ◌≤◌, ◌+ℤ◌, ◌≤ℤ◌, ◌<ℤ◌, nat_lt, if◌then◌else◌, true, false, List, [], length, replicate, Option, Some, None, MatchOption, slice_index, slice_set, slice_get, suc, zero}
use Rattle.std.specs.List.{Contains, slice_index_or}
use Rattle.std.specs.Option.{option_flatten}
use Rattle.machine_data.specs.declared.alternative.Row.{Row}
use Rattle.machine_data.specs.Alternative.{collides}
use Rattle.edges.specs.Edges.{EdgeData}
use Rattle.walks.specs.Walks.{AreHeights}
use Rattle.mrt.specs.Placements.{Placements, Placement, placement_of, alternatives_of, rows_of, IsMetBy, IsFirstSlot}
use Rattle.schedules.specs.Problems.{ProblemData}

-- each operation's placement, where it has one, and the time of its last placement, where it ever had one
pub record State : Type 0 where
  pub placed : Placements
  pub previous : List (Option ℕ)

abbrev pub empty : ℕ → State
empty count = record { placed = replicate count None; previous = replicate count None }

-- an operation isn't placed
pub record IsUnplaced (problem : ProblemData) (state : State) (p : ℕ) : Type 0 where
  pub there : p < length problem.operations
  pub unplaced : placement_of state.placed p ≡ None

-- the operation that is placed next: no unplaced one is higher, nor as high and before it
pub record IsNext (problem : ProblemData) (heights : List ℕ) (state : State) (p : ℕ) : Type 0 where
  pub is_unplaced : IsUnplaced problem state p
  pub highest : (q : ℕ) → IsUnplaced problem state q
      → (slice_index heights q < slice_index heights p) ⊎ ((slice_index heights q ≡ slice_index heights p) × (p ≤ q))

-- an edge to p from another operation, which is placed
pub record ComesFrom (problem : ProblemData) (state : State) (p : ℕ) (edge : EdgeData) (at : Placement) : Type 0 where
  pub listed : Contains problem.graph.edges edge
  pub target : edge.to ≡ p
  pub another : edge.from ≢ p
  pub is_placed : placement_of state.placed edge.from ≡ Some at

-- the earliest time at which the edges from placed operations allow an operation
pub record IsEarliest (problem : ProblemData) (ii : ℕ) (state : State) (p time : ℕ) : Type 0 where
  pub allowed : (edge : EdgeData) (at : Placement) → ComesFrom problem state p edge at → (pos at.time +ℤ edge.delay) ≤ℤ pos (time + ii * edge.distance)
  pub least : (time ≡ 0) ⊎ ((edge : EdgeData) × (at : Placement) × ComesFrom problem state p edge at × ((pos at.time +ℤ edge.delay) ≡ pos (time + ii * edge.distance)))

-- the time of a forced placement, from the time of the last one
abbrev pub forced_time : Option ℕ → ℕ → ℕ
forced_time None earliest = earliest
forced_time (Some previous) earliest = if nat_lt previous earliest then earliest else previous + 1

-- the first alternative that doesn't collide with itself
pub record IsFirstSound (ii : ℕ) (alternatives : List (List Row)) (choice : ℕ) : Type 0 where
  pub there : choice < length alternatives
  pub sound : collides ii (slice_index_or alternatives choice []) ≡ false
  pub first : (sooner : ℕ) → sooner < choice → collides ii (slice_index_or alternatives sooner []) ≡ true

pub record IsForced (problem : ProblemData) (ii : ℕ) (state : State) (p earliest : ℕ) (at : Placement) : Type 0 where
  pub time : at.time ≡ forced_time (option_flatten (slice_get state.previous p)) earliest
  pub choice : IsFirstSound ii (alternatives_of problem.operations p) at.alternative

-- where an operation is placed: in the first free slot within one interval from the earliest time on, and else by force
pub record IsPlacement (problem : ProblemData) (ii : ℕ) (state : State) (p : ℕ) (at : Placement) : Type 0 where
  pub earliest : ℕ
  pub is_earliest : IsEarliest problem ii state p earliest
  pub slot : Option (ℕ × ℕ)
  pub is_slot : IsFirstSlot ii problem.operations state.placed p earliest slot
  pub chosen : MatchOption slot (IsForced problem ii state p earliest at) (λ free. at ≡ record { time = free.0; alternative = free.1 })

-- a placed operation ends an edge from p that a placement of p breaks
pub record IsBroken (problem : ProblemData) (ii : ℕ) (state : State) (p : ℕ) (at : Placement) (q : ℕ) : Type 0 where
  pub edge : EdgeData
  pub listed : Contains problem.graph.edges edge
  pub source : edge.from ≡ p
  pub target : edge.to ≡ q
  pub other : Placement
  pub is_placed : placement_of state.placed q ≡ Some other
  pub late : pos (other.time + ii * edge.distance) <ℤ (pos at.time +ℤ edge.delay)

-- a placement of p evicts a placed operation: the two meet on a unit, or the placement breaks an edge
abbrev pub IsEvicted : ProblemData → ℕ → State → ℕ → Placement → ℕ → Type 0
IsEvicted problem ii state p at q = (q ≢ p)
    × (IsMetBy ii problem.operations state.placed (rows_of problem.operations p at.alternative) at.time q ⊎ IsBroken problem ii state p at q)

-- one step: the next operation is placed, and what that evicts is placed no more
pub record IsStep (problem : ProblemData) (ii : ℕ) (heights : List ℕ) (state next : State) : Type 0 where
  pub p : ℕ
  pub is_next : IsNext problem heights state p
  pub at : Placement
  pub is_place : IsPlacement problem ii state p at
  pub whole : length next.placed ≡ length state.placed
  pub placed : placement_of next.placed p ≡ Some at
  pub evicted : (q : ℕ) → IsEvicted problem ii state p at q → placement_of next.placed q ≡ None
  pub kept : (q : ℕ) → q ≢ p → (IsEvicted problem ii state p at q → ⊥) → placement_of next.placed q ≡ placement_of state.placed q
  pub remembered : next.previous ≡ slice_set state.previous p (Some at.time)

-- a number of steps leads from no placement to a state
abbrev pub LeadsTo : ProblemData → ℕ → List ℕ → ℕ → State → Type 0
LeadsTo problem ii heights zero state = state ≡ empty (length problem.operations)
LeadsTo problem ii heights (suc steps) state = (before : State) × LeadsTo problem ii heights steps before × IsStep problem ii heights before state

-- the state at which the machine stops: all operations are placed, or the budget is used up
pub record Stops (problem : ProblemData) (ii budget : ℕ) (state : State) : Type 0 where
  pub heights : List ℕ
  pub have_heights : AreHeights problem.graph ii heights
  pub steps : ℕ
  pub within : steps ≤ budget
  pub leads : LeadsTo problem ii heights steps state
  pub done : (steps ≡ budget) ⊎ ((q : ℕ) → IsUnplaced problem state q → ⊥)
