-- Laws of runs whose iterations overlap.
use Rattle.std.specs.Prelude.{◌≡◌, ◌↔◌, ℕ, pos, ◌+◌, ◌-◌, ◌*◌, ◌/◌, ◌%◌, ◌-ℤ◌, ◌<◌, ◌≤◌, true, length, Some, slice_get}
use Rattle.registers.specs.declared.value.Read.{Read}
use Rattle.registers.specs.Physical.{physical}
use Rattle.instances.specs.Runs.{RunData, IsRun, AreHomes, IsOpening, StandsIn, carried_by, destination, place_of, preloaded, reading_cycle, source, value_of}
use Rattle.instances.specs.Histories.{AreSame, Computes, History, Initials, IsOverlapped, IsSequential}

-- an operation of this time in iteration 0 is issued in `trip` turns from its stage on, in its row, and in just the cycles of its
-- instances
abbrev pub InstancesAreIssuedOnce : Type 0
InstancesAreIssuedOnce = (ii time trip cycle : ℕ) → 1 ≤ ii
    → ((cycle % ii ≡ time % ii) × (time / ii ≤ cycle / ii) × (cycle / ii < time / ii + trip))
    ↔ ((iteration : ℕ) × (iteration < trip) × (cycle ≡ time + ii * iteration))

-- a name is, in the turn of the operation's issue, that of the instance that is meant
abbrev pub NamesAreOfInstances : Type 0
NamesAreOfInstances =
    ((registers number distance stage iteration : ℕ) → 1 ≤ registers
    → physical registers ((number + distance + stage) % registers) (pos (stage + iteration)) ≡ physical registers number (pos iteration -ℤ pos distance))
    × ((run : RunData) → AreHomes run.homes
    → ((v k : ℕ) → destination run v k ≡ place_of run v (pos k))
    × ((reading : Read) (i : ℕ) → source run reading i ≡ place_of run reading.value (pos i -ℤ pos reading.distance))
    × ((v m : ℕ) → preloaded run v m ≡ place_of run v (pos 0 -ℤ pos m)))

-- where a read finds its value, in the cycle in which it is made, the instance that is wanted stands; and where that is of an
-- iteration before the first one, nothing has landed
abbrev pub RegistersHoldInstances : Type 0
RegistersHoldInstances = (run : RunData) (trip : ℕ) → IsRun run
    → (n i : ℕ) (reading : Read) → slice_get run.reads n ≡ Some reading → i < trip
    → (reading.distance ≤ i → StandsIn run trip (source run reading i) (reading_cycle run reading i) reading.value (i - reading.distance))
    × (i < reading.distance → IsOpening run trip (source run reading i) (reading_cycle run reading i))

-- the initial values that are wanted stand in places of their own, and where one is wanted, its place is read
abbrev pub OpeningsAreApart : Type 0
OpeningsAreApart = (run : RunData) → IsRun run
    → ((v w m n : ℕ) → v < length run.values → w < length run.values → 1 ≤ m → m ≤ carried_by run v → 1 ≤ n → n ≤ carried_by run w
    → preloaded run v m ≡ preloaded run w n → (v ≡ w) × (m ≡ n))
    × ((n i : ℕ) (reading : Read) → slice_get run.reads n ≡ Some reading → i < reading.distance
    → (source run reading i ≡ preloaded run reading.value (reading.distance - i))
    × (1 ≤ reading.distance - i) × (reading.distance - i ≤ carried_by run reading.value))

-- of a value that is live at the end the instance of the last iteration stands in its place from the end of that iteration on; where
-- there is no iteration, nothing has landed on its first initial value
abbrev pub EndsHoldLast : Type 0
EndsHoldLast = (run : RunData) (trip : ℕ) → IsRun run → (v cycle : ℕ) → v < length run.values → (value_of run v).out ≡ true
    → (1 ≤ trip → run.end + run.ii * (trip - 1) ≤ cycle → StandsIn run trip (destination run v (trip - 1)) cycle v (trip - 1))
    × (trip ≡ 0 → IsOpening run trip (preloaded run v 1) cycle)

-- a value that is read in the iteration in which it is made is made by an operation before its reader
abbrev pub GoForward : RunData → Type 0
GoForward run = (n : ℕ) (reading : Read) → slice_get run.reads n ≡ Some reading → reading.distance ≡ 0 → (value_of run reading.value).maker < reading.reader

-- whatever the operations do: the values of a run whose iterations overlap are those of the run of one iteration after another, those
-- are such values, and there are some
abbrev pub RunsAreSequential : Type 0 → Type 0
RunsAreSequential V = (run : RunData) (trip : ℕ) (compute : Computes V) (initial : Initials V) → IsRun run → GoForward run
    → ((written history : History V) → IsOverlapped run trip compute initial written → IsSequential run trip compute initial history → AreSame run trip written history)
    × ((history : History V) → IsSequential run trip compute initial history → IsOverlapped run trip compute initial history)
    × ((history : History V) × IsSequential run trip compute initial history)
