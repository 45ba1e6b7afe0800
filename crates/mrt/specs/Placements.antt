-- The set of placements that a modulo reservation table stands for, and what it answers.
--
-- The set holds at most one placement of each operation. It is written as the list that has, for each operation by its
-- number, its placement where it has one.
use Rattle.std.specs.Prelude.{◌≡◌, ℕ, ◌+◌, ◌<◌, ◌≤◌, true, false, List, [], length, Option, Some, MatchOption, slice_get}
use Rattle.std.specs.Option.{option_flatten}
use Rattle.std.specs.List.{slice_index_or}
use Rattle.machine_data.specs.declared.alternative.Row.{Row}
use Rattle.machine_data.specs.Alternative.{collides, rows_meet, alternatives_meet}

-- when an operation is issued, in cycles, and by which of its alternatives, by its number
pub record Placement : Type 0 where
  pub time : ℕ
  pub alternative : ℕ

-- the alternatives of each operation
abbrev pub OperationAlternatives : Type 0
OperationAlternatives = List (List (List Row))

-- for each operation its placement, where it has one
abbrev pub Placements : Type 0
Placements = List (Option Placement)

-- the placement of an operation
abbrev pub placement_of : Placements → ℕ → Option Placement
placement_of placed op = option_flatten (slice_get placed op)

-- the alternatives of an operation
abbrev pub alternatives_of : OperationAlternatives → ℕ → List (List Row)
alternatives_of operations op = slice_index_or operations op []

-- the rows of an alternative of an operation
abbrev pub rows_of : OperationAlternatives → ℕ → ℕ → List Row
rows_of operations op alternative = slice_index_or (alternatives_of operations op) alternative []

-- the operation is placed, and takes a slot that the rows take when they are issued at the time
pub record IsMetBy (ii : ℕ) (operations : OperationAlternatives) (placed : Placements) (rows : List Row) (time : ℕ) (other : ℕ) : Type 0 where
  pub at : Placement
  pub is_placed : placement_of placed other ≡ Some at
  pub meets : alternatives_meet ii rows time (rows_of operations other at.alternative) at.time ≡ true

-- the rows can be issued at the time: no two of them take one slot, and no placed operation takes a slot of theirs
pub record Fits (ii : ℕ) (operations : OperationAlternatives) (placed : Placements) (rows : List Row) (time : ℕ) : Type 0 where
  pub sound : collides ii rows ≡ false
  pub meets_none : (other : ℕ) → IsMetBy ii operations placed rows time other → ⊥

-- the operation has this alternative, and can be issued by it at the time
pub record IsFree (ii : ℕ) (operations : OperationAlternatives) (placed : Placements) (op time alternative : ℕ) : Type 0 where
  pub there : alternative < length (alternatives_of operations op)
  pub fits : Fits ii operations placed (rows_of operations op alternative) time

-- the first alternative by which the operation can be issued at the time, or none where there is none
abbrev pub IsFirstFree : ℕ → OperationAlternatives → Placements → ℕ → ℕ → Option ℕ → Type 0
IsFirstFree ii operations placed op time found =
    MatchOption found
    ((alternative : ℕ) → IsFree ii operations placed op time alternative → ⊥)
    (λ alternative. IsFree ii operations placed op time alternative × ((sooner : ℕ) → sooner < alternative → IsFree ii operations placed op time sooner → ⊥))

-- the least time from `start` on and before `start + ii` at which the operation can be issued, and the first alternative there
abbrev pub IsFirstSlot : ℕ → OperationAlternatives → Placements → ℕ → ℕ → Option (ℕ × ℕ) → Type 0
IsFirstSlot ii operations placed op start found =
    MatchOption found
    ((time alternative : ℕ) → start ≤ time → time < start + ii → IsFree ii operations placed op time alternative → ⊥)
    (λ slot. (start ≤ slot.0) × (slot.0 < start + ii) × IsFirstFree ii operations placed op slot.0 (Some slot.1)
    × ((sooner alternative : ℕ) → start ≤ sooner → sooner < slot.0 → IsFree ii operations placed op sooner alternative → ⊥))

-- the operation is placed, and one of its rows takes the slot that a row issued at the time takes
pub record Holds (ii : ℕ) (operations : OperationAlternatives) (placed : Placements) (row : Row) (time : ℕ) (holder : ℕ) : Type 0 where
  pub at : Placement
  pub is_placed : placement_of placed holder ≡ Some at
  pub own : ℕ
  pub own_there : own < length (rows_of operations holder at.alternative)
  pub same : rows_meet ii row time (slice_index_or (rows_of operations holder at.alternative) own row) at.time ≡ true

-- the one operation that holds the slot that a row issued at the time takes, or none where no operation does
abbrev pub IsHolder : ℕ → OperationAlternatives → Placements → Row → ℕ → Option ℕ → Type 0
IsHolder ii operations placed row time found =
    MatchOption found
    ((holder : ℕ) → Holds ii operations placed row time holder → ⊥)
    (λ holder. Holds ii operations placed row time holder × ((other : ℕ) → Holds ii operations placed row time other → other ≡ holder))
