-- Runs in which iterations of any operations overlap: where the instances of values stand, and what stands there in a cycle.
use Rattle.std.specs.Prelude.{◌≡◌, ◌⊎◌, ℕ, ℤ, pos, ◌+◌, ◌*◌, ◌/◌, ◌%◌, ◌-ℤ◌, ◌<◌, ◌≤◌, false, List, length, Some, slice_get, slice_index, slice_index_or}
use Rattle.std.specs.List.{All}
use Rattle.registers.specs.declared.lifetime.Lifetime.{Lifetime}
use Rattle.registers.specs.declared.value.Value.{Value}
use Rattle.registers.specs.declared.value.Read.{Read}
use Rattle.registers.specs.Lifetimes.{IsLiveIn}
use Rattle.registers.specs.Physical.{physical}
use Rattle.registers.specs.Values.{AreValues, AreReadInTime, carried, landing_of, lives_of}

-- where an instance of a value stands: in a register of a file, or in a place of its own
pub data Place : Type 0 where
  InRegister : (file number : ℕ) → Place
  Alone : (value : ℕ) (iteration : ℤ) → Place

-- where the instances of a value stand: in the `registers` rotating registers of a file, by the value's number there; or each in
-- a place of its own, where the value's file is not allotted
pub data Home : Type 0 where
  Rotates : (file registers number : ℕ) → Home
  Unallotted : Home

-- an interval, the cycle in which each operation is issued in iteration 0, the cycle up to which values that are live at the end
-- have to last, the values and their reads, and a home for each value
pub record RunData : Type 0 where
  pub ii : ℕ
  pub times : List ℕ
  pub end : ℕ
  pub values : List Value
  pub reads : List Read
  pub homes : List Home

-- the value with a number, and its home. What they are beyond the values doesn't matter
abbrev pub value_of : RunData → ℕ → Value
value_of run v = slice_index_or run.values v (record { maker = 0; lands = 0; out = false })

abbrev pub home_of : RunData → ℕ → Home
home_of run v = slice_index_or run.homes v Unallotted

-- how many iterations a value is carried on: it needs one initial value for each of these
abbrev pub carried_by : RunData → ℕ → ℕ
carried_by run v = carried run.reads v (value_of run v).out

-- places

-- the place of an instance, of any whole number
abbrev pub place_in : Home → ℕ → ℤ → Place
place_in (Rotates file registers number) v iteration = InRegister file (physical registers number iteration)
place_in Unallotted v iteration = Alone v iteration

abbrev pub place_of : RunData → ℕ → ℤ → Place
place_of run v iteration = place_in (home_of run v) v iteration

-- the same as code names them. A name in an operation is resolved in the turn of its issue, which is its stage and the iteration
abbrev pub stage_of : RunData → ℕ → ℕ
stage_of run op = slice_index run.times op / run.ii

-- where its maker, of this stage, puts the value in an iteration
abbrev pub destination_in : Home → ℕ → ℕ → ℕ → Place
destination_in (Rotates file registers number) v stage k = InRegister file (physical registers ((number + stage) % registers) (pos (stage + k)))
destination_in Unallotted v stage k = Alone v (pos k)

abbrev pub destination : RunData → ℕ → ℕ → Place
destination run v k = destination_in (home_of run v) v (stage_of run (value_of run v).maker) k

-- where a reader of this stage finds the value of `distance` iterations before
abbrev pub source_in : Home → ℕ → ℕ → ℕ → ℕ → Place
source_in (Rotates file registers number) v distance stage i = InRegister file (physical registers ((number + distance + stage) % registers) (pos (stage + i)))
source_in Unallotted v distance stage i = Alone v (pos i -ℤ pos distance)

abbrev pub source : RunData → Read → ℕ → Place
source run reading i = source_in (home_of run reading.value) reading.value reading.distance (stage_of run reading.reader) i

-- where, before the first turn, its instance of `m` iterations before the first one is put
abbrev pub preloaded_in : Home → ℕ → ℕ → Place
preloaded_in (Rotates file registers number) v m = InRegister file (physical registers ((number + m) % registers) (pos 0))
preloaded_in Unallotted v m = Alone v (pos 0 -ℤ pos m)

abbrev pub preloaded : RunData → ℕ → ℕ → Place
preloaded run v m = preloaded_in (home_of run v) v m

-- cycles

-- when the value of an iteration lands, and when a read in an iteration is made
abbrev pub landing : RunData → ℕ → ℕ → ℕ
landing run v k = landing_of run.times (value_of run v) + run.ii * k

abbrev pub reading_cycle : RunData → Read → ℕ → ℕ
reading_cycle run reading i = slice_index run.times reading.reader + reading.offset + run.ii * i

-- what stands in a place in a cycle, in a run of `trip` iterations: the instance of the value v and the iteration k, which has
-- landed there, and after all others that have
pub record StandsIn (run : RunData) (trip : ℕ) (place : Place) (cycle v k : ℕ) : Type 0 where
  pub there : v < length run.values
  pub within : k < trip
  pub here : destination run v k ≡ place
  pub landed : landing run v k ≤ cycle
  pub last : (w l : ℕ) → w < length run.values → l < trip → destination run w l ≡ place → landing run w l ≤ cycle
      → ((w ≡ v) × (l ≡ k)) ⊎ (landing run w l < landing run v k)

-- nothing has landed there yet
abbrev pub IsOpening : RunData → ℕ → Place → ℕ → Type 0
IsOpening run trip place cycle = (w l : ℕ) → w < length run.values → l < trip → destination run w l ≡ place → landing run w l ≤ cycle → ⊥

-- runs that keep their edges and their registers

-- each number is one of its registers
abbrev pub AreHomes : List Home → Type 0
AreHomes homes = (v file registers number : ℕ) → slice_get homes v ≡ Some (Rotates file registers number) → number < registers

-- two instances, each of the value with a number and of an iteration, that stand in one place and live in one cycle
pub record DoMeet (run : RunData) (v : ℕ) (i : ℤ) (w : ℕ) (j : ℤ) : Type 0 where
  pub one : Lifetime
  pub is_one : slice_get (lives_of run.ii run.times run.end run.values run.reads) v ≡ Some one
  pub other : Lifetime
  pub is_other : slice_get (lives_of run.ii run.times run.end run.values run.reads) w ≡ Some other
  pub same_place : place_of run v i ≡ place_of run w j
  pub cycle : ℤ
  pub one_lives : IsLiveIn run.ii one i cycle
  pub other_lives : IsLiveIn run.ii other j cycle

-- each value is read no earlier than it lands, and has landed by the end; and no two different instances, of any whole numbers,
-- stand in one place in one cycle
pub record IsRun (run : RunData) : Type 0 where
  pub lists : AreValues run.ii run.times run.values run.reads
  pub in_time : AreReadInTime run.ii run.times run.values run.reads
  pub each_home : length run.homes ≡ length run.values
  pub homes : AreHomes run.homes
  pub lasts : All (λ value. landing_of run.times value ≤ run.end) run.values
  pub apart : (v w : ℕ) (i j : ℤ) → DoMeet run v i w j → (v ≡ w) × (i ≡ j)
