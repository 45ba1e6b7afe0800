use Rattle.std.proofs.Common.{◌≡◌, ◌++◌, length}
use Rattle.problem_tables.specs.Faults.{units_fault}
use Rattle.problem_tables.specs.Names.{bytes_of}
use Rattle.problem_tables.proofs.lines.machine.take_units.Given as goal

-- what is left decides the fault, and all names are those so far and those that are left
abbrev pub invariant-loop-name : goal.invariant-loop-name
invariant-loop-name l = record {
  fault : units_fault l.fn.units l.fn.names ≡ units_fault l.units l.names;
  taken : l.fn.units ++ bytes_of l.fn.names ≡ l.units ++ bytes_of l.names;
}

abbrev pub decreases-loop-name : goal.decreases-loop-name
decreases-loop-name l = length l.names
