use Rattle.std.proofs.Common.{◌≡◌, ◌<◌, ◌≤◌, ◌⊎◌, take}
use Rattle.std.specs.List.{All, Any}
use Rattle.kernel.specs.declared.kernels.operation.Operation.{Operation}
use Rattle.kernel.proofs.text.next_row.Given as goal

abbrev pub invariant-loop-op : goal.invariant-loop-op
invariant-loop-op l = record {
  least : All (λ (op : Operation). (op.row < l.from) ⊎ (l.next ≤ op.row)) (take l.op-index l.operations);
  bound : l.from ≤ l.end → l.from ≤ l.next;
  there : (l.next ≡ l.end) ⊎ Any (λ (op : Operation). op.row ≡ l.next) l.operations;
}
