use Rattle.std.proofs.Common.{◌≡◌, ◌++◌, take, map}
use Rattle.toml.specs.View.{view}
use Rattle.machine.specs.MachineText.{unit_faults, text_of}
use Rattle.machine.proofs.checks.Turns.{InTurn}
use Rattle.machine.proofs.read.units.add_units.Given as goal

abbrev pub invariant-loop-unit : goal.invariant-loop-unit
invariant-loop-unit l = record {
  no_fault : InTurn unit_faults text_of l.units l.fn.names.items l.unit-index l.names.items;
  made : l.names.items ≡ l.fn.names.items ++ map text_of (map view (take l.unit-index l.units));
}
