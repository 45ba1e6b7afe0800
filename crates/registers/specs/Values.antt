-- How long the values of a list live, in cycles, where each operation is issued at a known time in iteration 0.
use Rattle.std.specs.Prelude.{◌≡◌, ℕ, ◌+◌, ◌*◌, ◌==◌, ◌<◌, ◌≤◌, min, max, Bool, if◌then◌else◌, List, [], ◌∷◌, Some, length, map, filter, slice_get, slice_index}
use Rattle.machine_data.specs.declared.limits.TheConstants.{MAX_DISTANCE, MAX_INTERVAL, MAX_LATENCY, MAX_OFFSET}
use Rattle.std.specs.List.{All}
use Rattle.registers.specs.declared.lifetime.Lifetime.{Lifetime}
use Rattle.registers.specs.declared.value.Value.{Value}
use Rattle.registers.specs.declared.value.Read.{Read}
use Rattle.registers.specs.Residues.{IsLifeSpan}

-- the greatest of some numbers, 0 of none
abbrev pub greatest_of : List ℕ → ℕ
greatest_of [] = 0
greatest_of (n ∷ ns) = max n (greatest_of ns)

-- the reads of a value, in order
abbrev pub reads_of : List Read → ℕ → List Read
reads_of reads value = filter (λ (r : Read). r.value == value) reads

-- how many iterations a value is carried on: the greatest distance of its reads, and at least 1 where it is live at the end
abbrev pub carried : List Read → ℕ → Bool → ℕ
carried reads value out = max (greatest_of (map (λ (r : Read). r.distance) (reads_of reads value))) (if out then 1 else 0)

-- the cycle in which the value of iteration 0 lands
abbrev pub landing_of : List ℕ → Value → ℕ
landing_of times value = slice_index times value.maker + value.lands

-- the cycle in which the value of iteration 0 is read
abbrev pub read_at : ℕ → List ℕ → Read → ℕ
read_at ii times reading = slice_index times reading.reader + reading.offset + ii * reading.distance

-- the last of the cycles in which a value is read, or the one in which it lands where it never is
abbrev pub last_read : ℕ → List ℕ → ℕ
last_read landing [] = landing
last_read landing (read ∷ reads) = greatest_of (read ∷ reads)

-- the first cycle: that of the landing; of a value that is carried on at the latest the interval, since the instance before the
-- first iteration stands in its register from the first cycle on
abbrev pub first_cycle : ℕ → ℕ → ℕ → ℕ
first_cycle ii landing iterations = if iterations == 0 then landing else min landing ii

-- when the value with this number lives: its last cycle is that of the last read, and of a value that is live at the end at least
-- the cycle up to which such values have to last
abbrev pub live_of : ℕ → List ℕ → ℕ → List Read → ℕ → Value → Lifetime
live_of ii times end reads number value = record {
  operation = value.maker;
  first = first_cycle ii (landing_of times value) (carried reads number value.out);
  last = max (last_read (landing_of times value) (map (read_at ii times) (reads_of reads number))) (if value.out then end else 0);
}

-- the lifetimes of these values, whose numbers are those from one on
abbrev pub lives_from : ℕ → List ℕ → ℕ → List Read → ℕ → List Value → List Lifetime
lives_from ii times end reads number [] = []
lives_from ii times end reads number (value ∷ values) =
    live_of ii times end reads number value ∷ lives_from ii times end reads (number + 1) values

-- the lifetimes of values in iteration 0, in their order
unfoldable pub lives_of : ℕ → List ℕ → ℕ → List Value → List Read → List Lifetime
lives_of ii times end values reads = lives_from ii times end reads 0 values

-- sizes

-- a value of one of `operations` operations
pub record IsValue (operations : ℕ) (value : Value) : Type 0 where
  pub maker : value.maker < operations
  pub lands : value.lands ≤ MAX_LATENCY

-- a read of one of `values` values by one of `operations` operations
pub record IsRead (operations values : ℕ) (reading : Read) : Type 0 where
  pub value : reading.value < values
  pub reader : reading.reader < operations
  pub distance : reading.distance ≤ MAX_DISTANCE
  pub offset : reading.offset ≤ MAX_OFFSET

-- lists of values and of their reads, for an interval of 1 to 16,384 cycles and issue times within 64 intervals
pub record AreValues (ii : ℕ) (times : List ℕ) (values : List Value) (reads : List Read) : Type 0 where
  pub some : 1 ≤ ii
  pub few : ii ≤ MAX_INTERVAL
  pub operations : length times ≤ 256
  pub issued : All (λ time. time < 64 * ii) times
  pub size : length values ≤ 256
  pub each_value : All (IsValue (length times)) values
  pub each_read : All (IsRead (length times) (length values)) reads

-- each value is read no earlier than it lands
abbrev pub AreReadInTime : ℕ → List ℕ → List Value → List Read → Type 0
AreReadInTime ii times values reads = (k : ℕ) (reading : Read) (value : Value) → slice_get reads k ≡ Some reading → slice_get values reading.value ≡ Some value
    → landing_of times value ≤ read_at ii times reading

-- law: then each lives to a cycle no earlier than its first one, and for at most 2^32 cycles
abbrev pub LivesAreSpans : Type 0
LivesAreSpans = (ii end : ℕ) (times : List ℕ) (values : List Value) (reads : List Read) → AreValues ii times values reads → AreReadInTime ii times values reads
    → end ≤ 4294967296 → All IsLifeSpan (lives_of ii times end values reads)
