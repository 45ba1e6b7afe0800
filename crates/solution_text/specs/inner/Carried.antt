-- How many iterations values are carried on, told of all of them at once.
use Rattle.std.specs.Prelude.{◌≡◌, ℕ, ◌<◌, ◌≤◌, max, if◌then◌else◌, List, length, map, slice_index}
use Rattle.machine_data.specs.declared.limits.TheConstants.{MAX_DISTANCE}
use Rattle.instances.specs.Runs.{carried_by}
use Rattle.problems.specs.declared.draft.Value.{Value}
use Rattle.registers.specs.declared.value.Read.{Read}
use Rattle.registers.specs.Values.{greatest_of, reads_of}
use Rattle.solutions.specs.Runs.{run_of}
use Rattle.solutions.specs.Solutions.{SolutionData}

-- for how many iterations a value is carried on at least: 1 where it is live at the end
abbrev pub out_of : Value → ℕ
out_of value = if value.out then 1 else 0

-- each entry is raised to the distances of the reads of its value
pub record IsRaised (reads : List Read) (old new : List ℕ) : Type 0 where
  pub each : length new ≡ length old
  pub raised : (value : ℕ) → value < length old
      → slice_index new value ≡ max (greatest_of (map (λ (r : Read). r.distance) (reads_of reads value))) (slice_index old value)

-- each entry is for how many iterations its value is carried on
pub record AreCarried (s : SolutionData) (iterations : List ℕ) : Type 0 where
  pub each : length iterations ≡ length s.problem.draft.values.items
  pub carried : (value : ℕ) → value < length iterations → slice_index iterations value ≡ carried_by (run_of s) value
  pub few : (value : ℕ) → value < length iterations → slice_index iterations value ≤ MAX_DISTANCE
