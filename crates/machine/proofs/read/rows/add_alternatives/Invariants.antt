use Rattle.std.proofs.Common.{◌≡◌, ◌++◌, take, map}
use Rattle.toml.specs.View.{view}
use Rattle.machine.specs.MachineText.{alternative_faults, rows_of}
use Rattle.machine.proofs.checks.Turns.{InEach}
use Rattle.machine.proofs.read.rows.add_alternatives.Given as goal

abbrev pub invariant-loop-value : goal.invariant-loop-value
invariant-loop-value l = record {
  no_fault : InEach (alternative_faults l.path l.units) l.values l.value-index;
  made : l.alternatives.items ≡ l.fn.alternatives.items ++ map (rows_of l.units) (map view (take l.value-index l.values));
}
