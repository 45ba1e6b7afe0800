use Rattle.std.proofs.Common.{◌≡◌, ◌++◌, ◌<◌, ◌≤◌, ◌-◌, length, slice_index, take}
use Rattle.std.specs.List.{flat_map}
use Rattle.solution_text.specs.Operations.{read_text}
use Rattle.solution_text.specs.inner.Chains.{readers_of}
use Rattle.solution_text.proofs.uses.push_read_registers.Given as goal

abbrev pub invariant-loop-at : goal.invariant-loop-at
invariant-loop-at l = record {
  within : l.at ≤ length l.reads;
  own : l.at < length l.reads → slice_index (readers_of l.reads) l.at ≡ l.op;
  pushed : l.text.items ≡ l.initial.text.items ++ flat_map (read_text l.solution l.op) (take l.at l.reads);
}

abbrev pub decreases-loop-at : goal.decreases-loop-at
decreases-loop-at l = length l.reads - l.at
