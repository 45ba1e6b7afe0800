-- What workers find of loops that are to be prepared.
use Rattle.std.specs.Prelude.{◌≡◌, ℕ, MatchResult, Result, Some, None}
use Rattle.machine.specs.Machines.{MachineData}
use Rattle.machine.specs.Opcode.{Opcode}
use Rattle.loop_data.specs.Loops.{LoopData}
use Rattle.graph.specs.Units.{first_without_table}
use Rattle.schedules.specs.Problems as schedules
use Rattle.loop_schedules.specs.Problems.{IsProblemOf, with_loop}

-- what is to be scheduled of a loop, where the machine has a table for each of its opcodes, and else the first opcode without one
pub record IsFound (ratio ceiling : ℕ) (machine : MachineData) (loop : LoopData) (found : Result schedules.ProblemData Opcode) : Type 0 where
  pub told : MatchResult found
      (λ problem. (first_without_table machine loop ≡ None) × IsProblemOf machine loop ratio ceiling (with_loop loop machine.registers problem))
      (λ opcode. first_without_table machine loop ≡ Some opcode)
