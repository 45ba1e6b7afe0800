-- How the writing of an output ends.
use Rattle.std.specs.Prelude.{◌≡◌, ◌+◌, ℕ, Bool, true, false, List, ◌++◌, Option, option_map}
use Rattle.devices.specs.Devices.{TakesBeginning}
use Rattle.exit_status.specs.declared.status.Status.{Status}
use Rattle.exit_status.specs.declared.status.Status.TheVariants as status
use Rattle.exit_status.specs.declared.verdict.Verdict.{Verdict}
use Rattle.exit_status.specs.declared.verdict.Verdict.TheVariants as verdict

-- what is told by a text of loops or problems that are all met, or not
abbrev pub verdict_of_met : Bool → Verdict
verdict_of_met true = verdict.Fine
verdict_of_met false = verdict.Unmet

-- a text was written whole, with the status of what it tells; or the output failed and took a beginning of it
abbrev pub EndsWritten : List ℕ → Verdict → Option (List ℕ) → Option (List ℕ) → Status → Type 0
EndsWritten text told before after status.Done = (told ≡ verdict.Fine) × (after ≡ option_map (λ taken. taken ++ text) before)
EndsWritten text told before after status.Unmet = (told ≡ verdict.Unmet) × (after ≡ option_map (λ taken. taken ++ text) before)
EndsWritten text told before after status.MachineFaulty = (told ≡ verdict.MachineFaulty) × (after ≡ option_map (λ taken. taken ++ text) before)
EndsWritten text told before after status.LoopsFaulty = (told ≡ verdict.LoopsFaulty) × (after ≡ option_map (λ taken. taken ++ text) before)
EndsWritten text told before after status.Unwritten = TakesBeginning before after text
EndsWritten text told before after _ = ⊥

-- a device's count of faults rose by one where the status tells of its fault, and stayed where it does not
pub record CountsFault (is_told : Type 0) (before after : ℕ) : Type 0 where
  pub rose : is_told → after ≡ before + 1
  pub stayed : ¬ is_told → after ≡ before
