-- The interval of a loop on a machine and on its variants, and how many registers it takes.
use Rattle.std.specs.Prelude.{◌≡◌, ℕ, ◌<◌, ◌≤◌, true, false, Option, Some, None}
use Rattle.machine_data.specs.Machines.{MachineData}
use Rattle.loop_data.specs.Loops.{LoopData}
use Rattle.loop_schedules.specs.Problems.{ProblemData, IsProblemOf}
use Rattle.kernel.specs.declared.kernels.parts.Parts.{Parts}
use Rattle.loop_listings.specs.declared.causes.Cause.{Cause}
use Rattle.loop_listings.specs.declared.choices.Choice.TheVariants as choice
use Rattle.candidates.specs.Choices.{IsChoice}
use Rattle.machine_variants.specs.declared.variant.Variant.{Variant}
use Rattle.machine_variants.specs.declared.variant.Variant.TheVariants.{Registers}
use Rattle.variants.specs.declared.found.finding.Standing.{Standing}
use Rattle.variants.specs.declared.found.finding.Standing.TheVariants as standing
use Rattle.variants.specs.declared.found.finding.Finding.{Finding}
use Rattle.variants.specs.declared.found.finding.Finding.TheVariants as finding
use Rattle.machine_variants.specs.Variants.{concerns, passes_limit, varied}

-- the interval that is chosen for a problem, where one is
abbrev pub IsIntervalOf : ProblemData → Option ℕ → Type 0
IsIntervalOf problem (Some ii) = (kernel : Parts) × IsChoice problem (choice.Met ii kernel)
IsIntervalOf problem None = (cause : Cause) × IsChoice problem (choice.Failed cause)

-- the one that is chosen for a loop on a machine
pub record IsIntervalOn (machine : MachineData) (loop : LoopData) (ratio ceiling : ℕ) (interval : Option ℕ) : Type 0 where
  pub problem : ProblemData
  pub is_problem : IsProblemOf machine loop ratio ceiling problem
  pub is_interval : IsIntervalOf problem interval

-- the one that is chosen for the loop of a problem on a variant of its machine
abbrev pub IsVariedInterval : MachineData → ProblemData → Variant → Option ℕ → Type 0
IsVariedInterval machine problem variant interval = IsIntervalOn (varied variant machine) problem.loop problem.ratio problem.ceiling interval

-- the least number of registers, 1 to 256, with which the loop of a problem has this interval
pub record IsLeastNumber (machine : MachineData) (problem : ProblemData) (ii number : ℕ) : Type 0 where
  pub some : 1 ≤ number
  pub few : number ≤ 256
  pub works : IsVariedInterval machine problem (Registers number) (Some ii)
  pub least : (other : ℕ) → 1 ≤ other → other < number → IsVariedInterval machine problem (Registers other) (Some ii) → ⊥

-- what the loop of a problem has on its machine: no interval, or this one, with the least number of registers for it
abbrev pub IsStanding : MachineData → ProblemData → Standing → Type 0
IsStanding machine problem standing.Failed = IsIntervalOf problem None
IsStanding machine problem (standing.Met ii number) = IsIntervalOf problem (Some ii) × IsLeastNumber machine problem ii number

-- what it has on a variant: none is looked for where that passes a limit
abbrev pub IsFinding : MachineData → ProblemData → Variant → Finding → Type 0
IsFinding machine problem variant finding.Limit = passes_limit machine variant ≡ true
IsFinding machine problem variant finding.Failed = (passes_limit machine variant ≡ false) × IsVariedInterval machine problem variant None
IsFinding machine problem variant (finding.Met ii) = (passes_limit machine variant ≡ false) × IsVariedInterval machine problem variant (Some ii)

-- a variant that does not concern a loop leaves its interval what it is
abbrev pub OthersChangeNothing : Type 0
OthersChangeNothing = (machine : MachineData) (loop : LoopData) (ratio ceiling : ℕ) (variant : Variant) (interval : Option ℕ)
    → concerns machine loop variant ≡ false → IsIntervalOn machine loop ratio ceiling interval → IsIntervalOn (varied variant machine) loop ratio ceiling interval

-- a loop has one interval on a machine
abbrev pub OneInterval : Type 0
OneInterval = (machine : MachineData) (loop : LoopData) (ratio ceiling : ℕ) (one other : Option ℕ)
    → IsIntervalOn machine loop ratio ceiling one → IsIntervalOn machine loop ratio ceiling other → one ≡ other
