use Rattle.std.proofs.Common.{◌≡◌, ◌++◌, take, map}
use Rattle.toml.specs.View.{view}
use Rattle.machine.specs.MachineText.{row_faults, row_in}
use Rattle.machine.proofs.checks.Turns.{InTurn}
use Rattle.machine.proofs.read.rows.add_rows.Given as goal

abbrev pub invariant-loop-value : goal.invariant-loop-value
invariant-loop-value l = record {
  no_fault : InTurn (row_faults l.path l.units) (row_in l.units) l.values l.fn.rows.items l.value-index l.rows.items;
  made : l.rows.items ≡ l.fn.rows.items ++ map (row_in l.units) (map view (take l.value-index l.values));
}
