use denote.Shadow.{shadow}
use denote.Text.{Utf8}
use Rattle.std.proofs.Common.{◌≡◌, ◌==◌, ◌++◌, codes, drop, string_bytes, filter}
use Rattle.kernel.specs.declared.kernels.operation.Operation.{Operation}
use Rattle.kernel.specs.Text.{joined}
use Rattle.kernel.proofs.text.write_operations.Given as goal

abbrev pub invariant-loop-op : goal.invariant-loop-op
invariant-loop-op l =
    shadow (Utf8 l.before) × (
    string_bytes l.text ++ joined l.parts l.before (filter (λ (op : Operation). op.row == l.row) (drop l.op-index l.op-items))
    ≡ string_bytes l.initial.text ++ joined l.parts (codes " ") (filter (λ (op : Operation). op.row == l.row) l.op-items))
