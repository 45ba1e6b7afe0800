-- Laws of drafts and problems.
use Rattle.std.specs.Prelude.{◌≡◌, ◌↔◌, ℕ, pos, ◌+◌, ◌*◌, ◌<◌, ◌≤◌, ◌+ℤ◌, ◌≤ℤ◌, List, length, None, slice_index}
use Rattle.machine_data.specs.declared.limits.TheConstants.{MAX_INTERVAL, MAX_STAGES}
use Rattle.std.specs.List.{All}
use Rattle.edges.specs.Schedules.{KeepsEdge}
use Rattle.registers.specs.declared.value.Read.{Read}
use Rattle.registers.specs.Values.{AreReadInTime, AreValues}
use Rattle.problems.specs.declared.draft.Draft.{Draft}
use Rattle.problems.specs.declared.draft.Order.{Order}
use Rattle.problems.specs.Drafts.{IsWellFormed, maker_of, plain_values}
use Rattle.problems.specs.Faults.{first_fault_of}
use Rattle.problems.specs.Problems.{ProblemData, IsProblem}

-- the drafts without a fault are the well-formed ones
abbrev pub SoundDraftsAreWellFormed : Type 0
SoundDraftsAreWellFormed = (draft : Draft) → (first_fault_of draft ≡ None) ↔ IsWellFormed draft

-- issue times that keep the edges have each value read no earlier than it lands
abbrev pub ReadsAreInTime : Type 0
ReadsAreInTime = (problem : ProblemData) (ii : ℕ) (times : List ℕ) → IsProblem problem → All (KeepsEdge ii times) problem.scheduling.graph.edges
    → AreReadInTime ii times (plain_values problem.draft) problem.draft.reads.items

-- at issue times within 64 intervals the values and their reads are of the sizes that registers are allotted for
abbrev pub ValuesAreValues : Type 0
ValuesAreValues = (problem : ProblemData) (ii : ℕ) (times : List ℕ) → IsProblem problem → 1 ≤ ii → ii ≤ MAX_INTERVAL → length times ≡ length problem.draft.operations.items
    → All (λ time. time < MAX_STAGES * ii) times → AreValues ii times (plain_values problem.draft) problem.draft.reads.items

-- what is read in its own iteration is made by an earlier operation
abbrev pub ReadsGoForward : Type 0
ReadsGoForward = (problem : ProblemData) → IsProblem problem
    → All (λ (r : Read). r.distance ≡ 0 → maker_of problem.draft r.value < r.reader) problem.draft.reads.items

-- issue times that keep the edges keep each order
abbrev pub OrdersAreKept : Type 0
OrdersAreKept = (problem : ProblemData) (ii : ℕ) (times : List ℕ) → IsProblem problem → All (KeepsEdge ii times) problem.scheduling.graph.edges
    → All (λ (o : Order). (pos (slice_index times o.from) +ℤ o.delay) ≤ℤ pos (slice_index times o.to + ii * o.distance)) problem.draft.orders.items
