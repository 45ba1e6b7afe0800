-- The points around the registers that no value takes. An arc is told by its first point, and by how far its last one is after it.
use Rattle.std.specs.Prelude.{◌≡◌, ℕ, ◌+◌, ◌-◌, ◌*◌, ◌%◌, ◌<◌, ◌≤◌, List, Some, slice_get}
use Rattle.machine_data.specs.declared.limits.TheConstants.{MAX_INTERVAL}
use Rattle.registers.specs.declared.numbers.gaps.Gap.{Gap}

-- the point of this turn that has `phase` points of the turn before it
abbrev pub place_at : ℕ → ℕ → ℕ
place_at phase turn = turn * MAX_INTERVAL + phase

-- two arcs have a point in common
abbrev pub Overlap : ℕ → ℕ → ℕ → ℕ → Type 0
Overlap one one_length other other_length = (one ≤ other + other_length) × (other ≤ one + one_length)

-- an arc lies in the gap at a place, or in some gap
abbrev pub FitsAt : List Gap → ℕ → ℕ → ℕ → Type 0
FitsAt gaps k at length = (gap : Gap) × (slice_get gaps k ≡ Some gap) × (gap.start ≤ at) × (at + length < gap.start + gap.room)

abbrev pub Fits : List Gap → ℕ → ℕ → Type 0
Fits gaps at length = (k : ℕ) × FitsAt gaps k at length

-- each gap ends before the next one begins, and within `around` points
pub record AreInOrder (around : ℕ) (gaps : List Gap) : Type 0 where
  pub within : (k : ℕ) (gap : Gap) → slice_get gaps k ≡ Some gap → gap.start + gap.room ≤ around
  pub order : (k l : ℕ) (one other : Gap) → k < l → slice_get gaps k ≡ Some one → slice_get gaps l ≡ Some other → one.start + one.room ≤ other.start

-- the number by which a value that has its first point in one turn with the number 0 has it in another turn
abbrev pub number_of : ℕ → ℕ → ℕ → ℕ
number_of registers from to = (to + (registers - from)) % registers
