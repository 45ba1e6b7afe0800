use Rattle.std.proofs.Common.{◌≡◌}
use Rattle.std.specs.List.{flat_map}
use Rattle.toml.specs.View.{members_view}
use Rattle.machine.specs.MachineText.{entries_of, entry_faults}
use Rattle.machine.proofs.Slots.{SlotsRight}
use Rattle.machine.proofs.read.tables.fill_tables.Given as goal

abbrev pub invariant-loop-key : goal.invariant-loop-key
invariant-loop-key l = record {
  no_fault : flat_map (entry_faults l.units) (entries_of (members_view l.key-iterator)) ≡ flat_map (entry_faults l.units) (entries_of (members_view l.initial.key-iterator));
  filled : SlotsRight l.units l.key-iterator (members_view l.initial.key-iterator) l.tables.items;
}
