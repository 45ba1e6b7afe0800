-- How many instances of values live in one cycle. Iterations are counted without end on both sides, so that in the cycle of a row
-- the same number of instances lives in every interval.
use Rattle.std.specs.Prelude.{ℕ, zero, suc, ◌+◌, ◌-◌, ◌/◌, ◌<◌, ◌≤◌, ℤ, pos, ◌+ℤ◌, ◌-ℤ◌, ◌*ℤ◌, ◌≤ℤ◌, ◌<ℤ◌, List}
use Rattle.std.specs.List.{slice_index_or}
use Rattle.registers.specs.declared.lifetime.Lifetime.{Lifetime}
use Rattle.registers.specs.Lifetimes.{IsLiveIn}

abbrev pub total : (ℕ → ℕ) → ℕ → ℕ
total count zero = 0
total count (suc n) = count n + total count n

-- an instance lives in the cycle of the row where its iteration began at least `least_age` intervals before, and fewer than
-- `ages_end`
abbrev pub least_age : ℕ → ℕ → Lifetime → ℕ
least_age ii row life = (life.first + (ii - 1 - row)) / ii

abbrev pub ages_end : ℕ → ℕ → Lifetime → ℕ
ages_end ii row life = (life.last + (ii - row)) / ii

-- the instances of a value
abbrev pub instances_in : ℕ → ℕ → Lifetime → ℕ
instances_in ii row life = ages_end ii row life - least_age ii row life

abbrev pub nobody : Lifetime
nobody = record { operation = 0; first = 0; last = 0 }

-- the instances of the first values, by the number of these
abbrev pub crowd_in : ℕ → ℕ → List Lifetime → ℕ → ℕ
crowd_in ii row lives = total (λ k. instances_in ii row (slice_index_or lives k nobody))

-- law: in the cycle of a row in any interval, told by a whole number, exactly the instances of these ages live

abbrev pub AgesAreBetween : Type 0
AgesAreBetween = (ii row : ℕ) (life : Lifetime) (iteration interval : ℤ) → row < ii → life.first ≤ life.last
    → (IsLiveIn ii life iteration (pos row +ℤ (interval *ℤ pos ii))
    → (pos (least_age ii row life) ≤ℤ (interval -ℤ iteration)) × ((interval -ℤ iteration) <ℤ pos (ages_end ii row life)))
    × ((pos (least_age ii row life) ≤ℤ (interval -ℤ iteration)) × ((interval -ℤ iteration) <ℤ pos (ages_end ii row life))
    → IsLiveIn ii life iteration (pos row +ℤ (interval *ℤ pos ii)))
