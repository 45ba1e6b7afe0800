use Rattle.std.proofs.Common.{◌≡◌, ◌-◌, ◌<◌, ◌≤◌, ◌⊎◌, ◌++◌, string_bytes}
use Rattle.std.specs.List.{All}
use Rattle.kernel.specs.declared.kernels.operation.Operation.{Operation}
use Rattle.kernel.specs.Text.{rows_text}
use Rattle.kernel.proofs.text.write_rows.Given as goal

abbrev pub invariant-loop-row : goal.invariant-loop-row
invariant-loop-row l = record {
  written : string_bytes l.text ++ rows_text l.parts l.row (l.parts.ii - l.row) ≡ string_bytes l.initial.text ++ rows_text l.parts 0 l.parts.ii;
  next : l.row ≤ l.next;
  least : All (λ (op : Operation). (op.row < l.row) ⊎ (l.next ≤ op.row)) l.parts.operations;
}
