-- Allotments of rotating registers to values that live for known times.
use Rattle.std.specs.Prelude.{◌≡◌, ℕ, ℤ, ◌<◌, ◌≤◌, List, [], ◌∷◌, ◌++◌, length, take, Some, slice_index, slice_get}
use Rattle.machine_data.specs.declared.limits.TheConstants.{MAX_REGISTERS}
use Rattle.std.specs.List.{All}
use Rattle.registers.specs.Physical.{physical}
use Rattle.registers.specs.declared.lifetime.Lifetime.{Lifetime}
use Rattle.registers.specs.Lifetimes.{IsLiveIn}

-- the number of registers, and for each value, in order, the number of the physical register of its instance 0
pub record AllotmentData : Type 0 where
  pub registers : ℕ
  pub numbers : List ℕ

-- two instances, each of the value at a place and of an iteration, that stand in one physical register and live in one cycle
pub record DoMeet (ii registers : ℕ) (lives : List Lifetime) (numbers : List ℕ) (k : ℕ) (i : ℤ) (l : ℕ) (j : ℤ) : Type 0 where
  pub one : Lifetime
  pub is_one : slice_get lives k ≡ Some one
  pub other : Lifetime
  pub is_other : slice_get lives l ≡ Some other
  pub same_register : physical registers (slice_index numbers k) i ≡ physical registers (slice_index numbers l) j
  pub cycle : ℤ
  pub one_lives : IsLiveIn ii one i cycle
  pub other_lives : IsLiveIn ii other j cycle

-- a number for each lifetime, such that no two different instances, of any whole numbers, stand in one register in one cycle
pub record IsLawfulAllotment (ii registers : ℕ) (lives : List Lifetime) (numbers : List ℕ) : Type 0 where
  pub each : length numbers ≡ length lives
  pub there : All (λ number. number < registers) numbers
  pub apart : (k l : ℕ) (i j : ℤ) → DoMeet ii registers lives numbers k i l j → (k ≡ l) × (i ≡ j)

-- the least number that is lawful for one more lifetime beside the numbers before it
pub record IsLeast (ii registers : ℕ) (before : List Lifetime) (numbers : List ℕ) (life : Lifetime) (number : ℕ) : Type 0 where
  pub lawful : IsLawfulAllotment ii registers (before ++ life ∷ []) (numbers ++ number ∷ [])
  pub least : (other : ℕ) → other < number → ¬ IsLawfulAllotment ii registers (before ++ life ∷ []) (numbers ++ other ∷ [])

-- each number is the least one after those before it
pub record AreLeast (ii registers : ℕ) (lives : List Lifetime) (numbers : List ℕ) : Type 0 where
  pub each : length numbers ≡ length lives
  pub least : (k : ℕ) (life : Lifetime) → slice_get lives k ≡ Some life
      → IsLeast ii registers (take k lives) (take k numbers) life (slice_index numbers k)

-- after the least numbers of those before it, some lifetime has no number
pub record HaveNone (ii registers : ℕ) (lives : List Lifetime) : Type 0 where
  pub place : ℕ
  pub life : Lifetime
  pub is_life : slice_get lives place ≡ Some life
  pub numbers : List ℕ
  pub least_before : AreLeast ii registers (take place lives) numbers
  pub none : (number : ℕ) → ¬ IsLawfulAllotment ii registers (take place lives ++ life ∷ []) (numbers ++ number ∷ [])

-- an allotment of 1 to 256 registers
pub record IsAllotment (allotment : AllotmentData) : Type 0 where
  pub some : 1 ≤ allotment.registers
  pub few : allotment.registers ≤ MAX_REGISTERS
  pub there : All (λ number. number < allotment.registers) allotment.numbers

-- laws

-- least numbers are lawful, there is one list of them, and none where some lifetime has none
abbrev pub LeastIsLawful : Type 0
LeastIsLawful = (ii registers : ℕ) (lives : List Lifetime) (numbers : List ℕ) → AreLeast ii registers lives numbers → IsLawfulAllotment ii registers lives numbers

abbrev pub LeastIsOne : Type 0
LeastIsOne = (ii registers : ℕ) (lives : List Lifetime) (numbers others : List ℕ) → AreLeast ii registers lives numbers → AreLeast ii registers lives others → numbers ≡ others

abbrev pub LeastOrNone : Type 0
LeastOrNone = (ii registers : ℕ) (lives : List Lifetime) (numbers : List ℕ) → AreLeast ii registers lives numbers → ¬ HaveNone ii registers lives
