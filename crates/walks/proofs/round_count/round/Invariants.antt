use Rattle.std.proofs.Common.{◌≡◌, ℕ, ◌<◌, ◌==◌, Some, None, length, get_or, filter}
use Rattle.edges.specs.Edges.{EdgeData}
use Rattle.walks.specs.inner.Reaches.{IsRaised}
use Rattle.walks.proofs.round_count.round.Given as goal

abbrev pub invariant-loop-operation : goal.invariant-loop-operation
invariant-loop-operation l = record {
  long : length l.next ≡ 128;
  raised : (p : ℕ) → p < l.operation → IsRaised (filter (λ (e : EdgeData). e.from == p) l.edges.edges) l.interval l.numbers (get_or l.numbers p 0) (get_or l.next p 0);
  rises : (p : ℕ) → l.rising ≡ Some p → (p < l.operation) × (get_or l.numbers p 0 < get_or l.next p 0);
  stays : l.rising ≡ None → (p : ℕ) → p < l.operation → get_or l.next p 0 ≡ get_or l.numbers p 0;
}
