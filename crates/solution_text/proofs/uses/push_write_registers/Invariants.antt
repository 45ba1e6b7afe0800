use Rattle.std.proofs.Common.{◌≡◌, ◌++◌, ◌<◌, ◌≤◌, ◌-◌, length, slice_index}
use Rattle.std.specs.List.{flat_map, range_with_len}
use Rattle.solution_text.specs.Operations.{write_text}
use Rattle.solution_text.specs.inner.Chains.{makers_of}
use Rattle.solution_text.proofs.uses.push_write_registers.Given as goal

abbrev pub invariant-loop-value : goal.invariant-loop-value
invariant-loop-value l = record {
  within : l.value ≤ length l.values;
  own : l.value < length l.values → slice_index (makers_of l.solution.problem.draft.values.items) l.value ≡ l.op;
  pushed : l.text.items ≡ l.initial.text.items ++ flat_map (write_text l.solution l.op) (range_with_len 0 l.value);
}

abbrev pub decreases-loop-value : goal.decreases-loop-value
decreases-loop-value l = length l.values - l.value
