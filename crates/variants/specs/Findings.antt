-- What is found of loops on a machine and on its variants.
use Rattle.std.specs.Prelude.{◌≡◌, ℕ, true, false, List, Option, Some, None}
use Rattle.std.specs.List.{AllZip}
use Rattle.machine_data.specs.Machines.{MachineData}
use Rattle.loop_data.specs.Loops.{LoopData}
use Rattle.graph.specs.Units.{first_without_table}
use Rattle.loop_schedules.specs.Problems.{ProblemData, IsProblemOf}
use Rattle.machine_variants.specs.declared.variant.Variant.{Variant}
use Rattle.machine_variants.specs.Variants.{concerns, variants_of}
use Rattle.variants.specs.declared.found.finding.Finding.{Finding}
use Rattle.variants.specs.declared.found.finding.LoopFindings.{LoopFindings}
use Rattle.variants.specs.declared.found.files.FileFindings.{FileFindings}
use Rattle.variants.specs.Intervals.{IsFinding, IsStanding}

-- a problem that is that of its loop on the machine, which has a table for each of its opcodes
pub record IsOn (machine : MachineData) (problem : ProblemData) : Type 0 where
  pub is_problem : IsProblemOf machine problem.loop problem.ratio problem.ceiling problem
  pub tables : first_without_table machine problem.loop ≡ None

-- what is found on a variant: nothing where it does not concern the loop of the problem
abbrev pub IsFoundOn : MachineData → ProblemData → Variant → Option Finding → Type 0
IsFoundOn machine problem variant None = concerns machine problem.loop variant ≡ false
IsFoundOn machine problem variant (Some finding) = (concerns machine problem.loop variant ≡ true) × IsFinding machine problem variant finding

-- what is found of the loop of a problem on the machine: its standing, and what it has on each variant
pub record AreFindings (machine : MachineData) (problem : ProblemData) (found : LoopFindings) : Type 0 where
  pub is_problem : IsProblemOf machine problem.loop problem.ratio problem.ceiling problem
  pub is_standing : IsStanding machine problem found.standing
  pub each_finding : AllZip (IsFoundOn machine problem) (variants_of machine) found.findings.items

-- what is found of problems, each on its own
abbrev pub AreFoundOf : MachineData → FileFindings → Type 0
AreFoundOf machine found = AllZip (AreFindings machine) found.prepared.items found.loops.items

-- loops prepared, with what is found of each
abbrev pub AreFound : ℕ → ℕ → MachineData → List LoopData → FileFindings → Type 0
AreFound ratio ceiling machine loops found =
    AllZip (λ loop problem. IsProblemOf machine loop ratio ceiling problem) loops found.prepared.items × AreFoundOf machine found
