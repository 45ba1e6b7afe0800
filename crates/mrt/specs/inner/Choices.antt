-- Alternatives that stand one after another in one list of slots.
use Rattle.std.specs.Prelude.{ℕ, ◌<◌, ◌≤◌, List, length}
use Rattle.machine_data.specs.declared.limits.TheConstants.{MAX_INTERVAL}
use Rattle.std.specs.List.{All, slice_range}
use Rattle.machine_data.specs.declared.alternative.Row.{Row}
use Rattle.machine_data.specs.Alternative.{collides}
use Rattle.mrt.specs.declared.rosters.slot.Slot.{Slot}
use Rattle.mrt.specs.declared.rosters.choices.Span.{Span}
use Rattle.mrt.specs.inner.Marks.{AreMultiples, Tells}
use Rattle.mrt.specs.inner.Slots.{IsSlot, rows_in, HasUnits}

-- an interval, and alternatives at it
pub record Offered : Type 0 where
  pub interval : ℕ
  pub alternatives : List (List Row)

-- the rows of the slots of a span
abbrev pub rows_at : List Slot → Span → List Row
rows_at slots span = rows_in (slice_range slots span.start span.end)

-- the span is a part of the slots, and its marks tell of which units its rows are and whether two of them meet
pub record IsSpan (slots : List Slot) (span : Span) : Type 0 where
  pub order : span.start ≤ span.end
  pub within : span.end ≤ length slots
  pub units : HasUnits span.marks.units (rows_at slots span)
  pub gaps : Tells span.marks.gaps (λ ii. collides ii (rows_at slots span))

-- what is kept of alternatives at an interval
pub record AreChoices (ii multiples : ℕ) (slots : List Slot) (spans : List Span) : Type 0 where
  pub some : 0 < ii
  pub few : ii ≤ MAX_INTERVAL
  pub turned : AreMultiples ii multiples
  pub each_slot : All (IsSlot ii) slots
  pub each_span : All (IsSpan slots) spans
