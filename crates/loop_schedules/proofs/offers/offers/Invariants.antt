use Rattle.std.proofs.Common.{◌≡◌, ◌<◌, ℕ, [], length, take, drop, Some, None}
use Rattle.std.specs.List.{All, find, slice_index_or}
use Rattle.std.specs.Option.{is_none, option_flatten}
use Rattle.std.specs.Prelude.{slice_get}
use Rattle.machine_data.specs.Alternative.{AreAlternatives}
use Rattle.machine_data.specs.Machines.{table_of}
use Rattle.graph.specs.Units.{alternatives_in, first_without_table, opcodes_of, operations_of}
use Rattle.schedules.specs.Problems.{AreKinds}
use Rattle.loop_schedules.proofs.offers.offers.Given as goal

abbrev pub invariant-loop-statement : goal.invariant-loop-statement
invariant-loop-statement l = record {
  passed : find (λ opcode. is_none (table_of l.machine opcode)) (drop l.statement-index (opcodes_of l.innermost)) ≡ first_without_table l.machine l.innermost;
  listed : l.list.items ≡ take l.statement-index (operations_of l.machine l.innermost);
  offered : All AreAlternatives l.list.items;
  kinds : AreKinds l.list.items l.kinds.items;
  noted : (number first : ℕ) → slice_index_or l.noted number None ≡ Some first
      → (first < length l.list.items) × (slice_index_or l.list.items first [] ≡ alternatives_in (option_flatten (slice_get l.machine.tables number)));
}
