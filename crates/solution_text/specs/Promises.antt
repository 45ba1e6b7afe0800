-- Laws of the text of a solution: the registers that it names.
use Rattle.std.specs.Prelude.{◌≡◌, ℕ, pos, ◌+◌, Some}
use Rattle.registers.specs.Physical.{physical}
use Rattle.registers.specs.declared.value.Read.{Read}
use Rattle.instances.specs.Runs.{InRegister, Rotates, destination, home_of, preloaded, source, stage_of, value_of}
use Rattle.solutions.specs.Runs.{run_of}
use Rattle.solutions.specs.Solutions.{SolutionData}
use Rattle.solution_text.specs.declared.named.Register.{Register}
use Rattle.solution_text.specs.Registers.{destination_of, opening_of, source_of}

-- the register that is named for what a value's maker writes is, in the turn of the issue, where the run has the instance; so is the
-- one that is named for a read, and, before the first turn, the one of an initial value
abbrev pub NamesAreThoseOfRuns : Type 0
NamesAreThoseOfRuns = (s : SolutionData) (value file registers number : ℕ) → home_of (run_of s) value ≡ Rotates file registers number
    → ((k : ℕ) → (named : Register) × (destination_of s value ≡ Some named) × (named.file ≡ file)
    × (destination (run_of s) value k ≡ InRegister file (physical registers named.number (pos (stage_of (run_of s) (value_of (run_of s) value).maker + k)))))
    × ((reading : Read) (i : ℕ) → reading.value ≡ value → (named : Register) × (source_of s reading ≡ Some named) × (named.file ≡ file)
    × (source (run_of s) reading i ≡ InRegister file (physical registers named.number (pos (stage_of (run_of s) reading.reader + i)))))
    × ((iterations : ℕ) → (named : Register) × (opening_of s value iterations ≡ Some named) × (named.file ≡ file)
    × (preloaded (run_of s) value iterations ≡ InRegister file (physical registers named.number (pos 0))))
