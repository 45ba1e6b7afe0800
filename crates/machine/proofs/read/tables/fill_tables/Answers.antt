use Rattle.std.proofs.Common.{◌≡◌, Some, set, refl, rules, arith}
use Rattle.std.specs.List.{flat_map}
use Rattle.toml.specs.Data.{table}
use Rattle.toml.specs.View.{members_view, table_view}
use Rattle.machine.specs.MachineText.{entries_of, entry_faults}
use Rattle.machine.proofs.checks.Faults.{ReadsPart-err}
use Rattle.machine.proofs.Slots.{SlotsRight, slots-none, slots-more, slots-all, entry-unknown, entry-fault, entry-more, entries-all}
use Rattle.machine.proofs.read.tables.fill_tables.Goals as goal
use Rattle.machine.proofs.read.tables.fill_tables.Goals.{After-into_iter-key-iterator, After-number}

all_entries : (c : After-into_iter-key-iterator) → c.into_iter-key-iterator.result ≡ c.args.ops.now.entries
all_entries c = search (rules, c.into_iter-key-iterator.ensures, c.iter-key-items.ensures)

-- what a turn of the loop leaves
turned : (c : After-number) → (flat_map (entry_faults c.args.units.now) (entries_of (members_view c.next.new.self)) ≡ flat_map (entry_faults c.args.units.now) (entries_of (members_view c.into_iter-key-iterator.result)))
    × SlotsRight c.args.units.now c.next.new.self (members_view c.into_iter-key-iterator.result) (set c.loop-key.tables.items c.number.result (Some c.in_ok-read_operation.field-0))
turned c =
    let named = rw c.as_str.ensures.value at c.in_ok-opcode.ensures.1 in
    let read = c.in_ok-read_operation.ensures in (
      entry-more c.args.units.now (members_view c.into_iter-key-iterator.result) c.loop-key.key-iterator c.in-Some.key.now c.in-Some.value.now c.next.new.self c.in-Some.ensures.steps c.loop-key.invariant.no_fault _ named read.0,
      rw (c.number.ensures.value, read.1) (slots-more c.args.units.now (members_view c.into_iter-key-iterator.result) _ c.loop-key.key-iterator c.in-Some.key.now c.in-Some.value.now c.next.new.self _ c.in-Some.ensures.steps named c.loop-key.invariant.filled),
    )

pub returns-in_err-opcode : goal.returns-in_err-opcode
returns-in_err-opcode c =
    let entries = all_entries (goal.at.returns-in_err-opcode c).After-into_iter-key-iterator in
    ReadsPart-err _ _ c.from_residual.result c.in_err-opcode.field-0.0 c.from_residual.ensures.1 (λ ne.
    let refused = rw c.as_str.ensures.value at (c.in_err-opcode.ensures ne) in
    rw entries at (entry-unknown c.args.units.now (members_view c.into_iter-key-iterator.result) c.loop-key.key-iterator c.in-Some.key.now c.in-Some.value.now c.next.new.self c.in-Some.ensures.steps c.loop-key.invariant.no_fault _ refused))

pub returns-in_err-read_operation : goal.returns-in_err-read_operation
returns-in_err-read_operation c =
    let entries = all_entries (goal.at.returns-in_err-read_operation c).After-into_iter-key-iterator in
    let named = rw c.as_str.ensures.value at c.in_ok-opcode.ensures.1 in
    ReadsPart-err _ _ c.from_residual-in_err-read_operation.result c.in_err-read_operation.field-0.0 c.from_residual-in_err-read_operation.ensures.1 (λ ne.
    rw entries at (entry-fault c.args.units.now (members_view c.into_iter-key-iterator.result) c.loop-key.key-iterator c.in-Some.key.now c.in-Some.value.now c.next.new.self c.in-Some.ensures.steps c.loop-key.invariant.no_fault _ named _ (c.in_err-read_operation.ensures ne)))

pub loop-key-init : goal.loop-key-init
loop-key-init c = record {
  no_fault = refl;
  filled = slots-none c.args.units.now c.into_iter-key-iterator.result _ c.requires.none (rw (all_entries c) c.iter-key-items.ensures.ordered);
}

pub index_mut-requires : goal.index_mut-requires
index_mut-requires c = omega (arith, c.number.ensures.range, c.loop-key.invariant.filled.count, c.loop-key.tables.ok.0)

pub loop-key-preserved : goal.loop-key-preserved
loop-key-preserved c = let h = turned (goal.at.loop-key-preserved c).After-number in record { no_fault = h.0; filled = h.1 }

pub loop-key-preserved-in_ok-read_operation : goal.loop-key-preserved-in_ok-read_operation
loop-key-preserved-in_ok-read_operation c = let h = turned (goal.at.loop-key-preserved-in_ok-read_operation c).After-number in record { no_fault = h.0; filled = h.1 }

pub returns : goal.returns
returns c =
    let entries = all_entries (goal.at.returns c).After-into_iter-key-iterator in (
      rw entries at (entries-all c.args.units.now (members_view c.into_iter-key-iterator.result) c.loop-key.key-iterator c.in-None.ensures.steps.0 c.loop-key.invariant.no_fault),
      slots-all c.args.units.now (table (table_view c.args.ops.now)) _ c.loop-key.key-iterator c.in-None.ensures.steps.0 (rw entries at c.loop-key.invariant.filled),
    )
