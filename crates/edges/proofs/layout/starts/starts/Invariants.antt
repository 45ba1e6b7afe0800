use Rattle.std.proofs.Common.{◌≡◌, ℕ, ◌-◌, ◌<◌, ◌≤◌, length, get_or}
use Rattle.edges.specs.Edges.{EdgeData}
use Rattle.edges.specs.inner.Layout.{operation_at, IsStart}
use Rattle.edges.proofs.layout.starts.starts.Given as goal

abbrev pub invariant-loop-operation : goal.invariant-loop-operation
invariant-loop-operation l =
    (l.next ≤ length l.list) × ((i : ℕ) (d : EdgeData) → i < l.next → operation_at l.end (get_or l.list i d) < l.operation)
    × (length l.starts.items ≡ l.operation) × ((k : ℕ) → k < l.operation → IsStart l.end l.list k (get_or l.starts.items k 0))

abbrev pub invariant-loop-next : goal.invariant-loop-next
invariant-loop-next l =
    (l.next ≤ length l.list) × ((i : ℕ) (d : EdgeData) → i < l.next → operation_at l.end (get_or l.list i d) < l.operation)

abbrev pub decreases-loop-next : goal.decreases-loop-next
decreases-loop-next l = length l.list - l.next
