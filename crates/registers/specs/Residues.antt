-- Which numbers make instances of two values meet, told by the difference of the instances' iterations. `low` and `high` are the
-- least and the greatest difference at which the second value's instance shares a cycle with the first one's.
use Rattle.std.specs.Prelude.{◌≡◌, ℕ, ℤ, pos, ◌-◌, ◌/◌, ◌+ℤ◌, ◌-ℤ◌, ◌≤ℤ◌, ◌<◌, ◌≤◌, List, [], ◌∷◌, ◌++◌, length, Some, slice_get, slice_index}
use Rattle.std.specs.Int.{int_div_euclid}
use Rattle.registers.specs.Physical.{physical}
use Rattle.registers.specs.declared.lifetime.Lifetime.{Lifetime}
use Rattle.registers.specs.Allotments.{IsLawfulAllotment}
use Rattle.registers.specs.Lifetimes.{IsLiveIn}

-- rounded up and down; the divisor is above 0
abbrev pub rounded_down : ℤ → ℕ → ℤ
rounded_down z n = int_div_euclid z (pos n)

abbrev pub rounded_up : ℤ → ℕ → ℤ
rounded_up z n = int_div_euclid (z +ℤ (pos n -ℤ pos 1)) (pos n)

abbrev pub least_shift : ℕ → Lifetime → Lifetime → ℤ
least_shift ii one other = rounded_up (pos one.first -ℤ pos other.last) ii

abbrev pub greatest_shift : ℕ → Lifetime → Lifetime → ℤ
greatest_shift ii one other = rounded_down (pos one.last -ℤ pos other.first) ii

-- instance 0 of the one and instance `shift` of the other live in one cycle
abbrev pub MeetsAt : ℕ → Lifetime → Lifetime → ℤ → Type 0
MeetsAt ii one other shift = (cycle : ℤ) × IsLiveIn ii one (pos 0) cycle × IsLiveIn ii other shift cycle

-- the other value's number makes some instance meet one of the first, which has this number
abbrev pub Forbids : ℕ → ℕ → Lifetime → ℕ → Lifetime → ℕ → Type 0
Forbids ii registers one number other candidate =
    (shift : ℤ) × MeetsAt ii one other shift × (physical registers number (pos 0) ≡ physical registers candidate shift)

-- laws; the interval, the registers and a lifetime's cycles are as they should be

abbrev pub ShiftsAreBetween : Type 0
ShiftsAreBetween = (ii : ℕ) (one other : Lifetime) (shift : ℤ) → 1 ≤ ii → one.first ≤ one.last → other.first ≤ other.last
    → (MeetsAt ii one other shift → (least_shift ii one other ≤ℤ shift) × (shift ≤ℤ greatest_shift ii one other))
    × ((least_shift ii one other ≤ℤ shift) × (shift ≤ℤ greatest_shift ii one other) → MeetsAt ii one other shift)

-- how far the candidate is above the first forbidden register, around the registers
abbrev pub distance_up : ℕ → ℕ → ℤ → ℕ → ℕ
distance_up registers number low candidate = physical registers candidate (pos number +ℤ low)

abbrev pub ForbidsBetween : Type 0
ForbidsBetween = (ii registers number candidate : ℕ) (one other : Lifetime) → 1 ≤ ii → 1 ≤ registers → one.first ≤ one.last → other.first ≤ other.last
    → (Forbids ii registers one number other candidate → (least_shift ii one other +ℤ pos (distance_up registers number (least_shift ii one other) candidate)) ≤ℤ greatest_shift ii one other)
    × ((least_shift ii one other +ℤ pos (distance_up registers number (least_shift ii one other) candidate)) ≤ℤ greatest_shift ii one other → Forbids ii registers one number other candidate)

-- one more value

-- no instance of the value meets another one of itself
abbrev pub FitsItself : ℕ → ℕ → Lifetime → Type 0
FitsItself ii registers life = (life.last - life.first) / ii < registers

-- nor one of the values that have numbers
abbrev pub IsFreeNumber : ℕ → ℕ → List Lifetime → List ℕ → Lifetime → ℕ → Type 0
IsFreeNumber ii registers lives numbers life number =
    (k : ℕ) (one : Lifetime) → slice_get lives k ≡ Some one → ¬ Forbids ii registers one (slice_index numbers k) life number

-- a number for one more value is lawful beside lawful ones just where these two hold
abbrev pub LawfulMore : Type 0
LawfulMore = (ii registers : ℕ) (lives : List Lifetime) (numbers : List ℕ) (life : Lifetime) (number : ℕ) → 1 ≤ ii → 1 ≤ registers → life.first ≤ life.last
    → length numbers ≡ length lives
    → (IsLawfulAllotment ii registers (lives ++ life ∷ []) (numbers ++ number ∷ [])
    → IsLawfulAllotment ii registers lives numbers × (number < registers) × FitsItself ii registers life × IsFreeNumber ii registers lives numbers life number)
    × (IsLawfulAllotment ii registers lives numbers × (number < registers) × FitsItself ii registers life × IsFreeNumber ii registers lives numbers life number
    → IsLawfulAllotment ii registers (lives ++ life ∷ []) (numbers ++ number ∷ []))

-- a lifetime that ends no earlier than it begins, and within 2^32 cycles
pub record IsLifeSpan (life : Lifetime) : Type 0 where
  pub ordered : life.first ≤ life.last
  pub short : life.last ≤ 4294967296
