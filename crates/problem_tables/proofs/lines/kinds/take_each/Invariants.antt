use Rattle.std.proofs.Common.{◌≡◌, ◌++◌, length, map}
use Rattle.smallvec.specs.SmallVec.{SmallVec}
use Rattle.problems.specs.declared.draft.Hold.{Hold}
use Rattle.problem_tables.specs.Data.{hold_in}
use Rattle.problem_tables.specs.Faults.{alternatives_fault}
use Rattle.problem_tables.proofs.lines.kinds.take_each.Given as goal

-- what is left decides the fault, and all alternatives are those so far and those that are left
abbrev pub invariant-loop-holds : goal.invariant-loop-holds
invariant-loop-holds l = record {
  fault : alternatives_fault l.units 0 l.fn.left ≡ alternatives_fault l.units (length l.alternatives.items) l.left;
  taken : map (map (hold_in l.units)) l.fn.left ≡ map (λ (rows : SmallVec Hold). rows.items) l.alternatives.items ++ map (map (hold_in l.units)) l.left;
}

abbrev pub decreases-loop-holds : goal.decreases-loop-holds
decreases-loop-holds l = length l.left
