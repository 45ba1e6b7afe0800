-- Items in order, each of one owner, of which each is found from the one of the same owner before it.
use Rattle.std.specs.Prelude.{◌≡◌, ◌≢◌, ℕ, ◌+◌, ◌<◌, ◌≤◌, List, length, map, slice_index}
use Rattle.problems.specs.declared.draft.Value.{Value}
use Rattle.problems.specs.Problems.{ProblemData}
use Rattle.registers.specs.declared.value.Read.{Read}
use Rattle.solution_text.specs.declared.chains.Uses.{Uses}

-- the first item of an owner, from one on: its number, or how many items there are where there is none
pub record IsNext (owners : List ℕ) (owner from found : ℕ) : Type 0 where
  pub low : from ≤ found
  pub high : found ≤ length owners
  pub between : (k : ℕ) → from ≤ k → k < found → slice_index owners k ≢ owner
  pub here : found < length owners → slice_index owners found ≡ owner

-- of each owner the first item from one on, and of each of these items the next one of its owner
pub record AreChained (owners : List ℕ) (from : ℕ) (firsts nexts : List ℕ) : Type 0 where
  pub each : length nexts ≡ length owners
  pub first : (owner : ℕ) → owner < length firsts → IsNext owners owner from (slice_index firsts owner)
  pub next : (k : ℕ) → from ≤ k → k < length owners → IsNext owners (slice_index owners k) (k + 1) (slice_index nexts k)

-- who owns a read, and a value
abbrev pub readers_of : List Read → List ℕ
readers_of reads = map (λ (r : Read). r.reader) reads

abbrev pub makers_of : List Value → List ℕ
makers_of values = map (λ (v : Value). v.maker) values

-- the reads and the values of a problem, each chain with a first item for each operation
pub record AreUses (problem : ProblemData) (uses : Uses) : Type 0 where
  pub each_reader : length uses.of_readers.firsts.now ≡ length problem.scheduling.operations
  pub readers : AreChained (readers_of problem.draft.reads.items) 0 uses.of_readers.firsts.now uses.of_readers.nexts.now
  pub each_maker : length uses.of_makers.firsts.now ≡ length problem.scheduling.operations
  pub makers : AreChained (makers_of problem.draft.values.items) 0 uses.of_makers.firsts.now uses.of_makers.nexts.now
