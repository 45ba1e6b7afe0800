use Rattle.std.proofs.Common.{◌≡◌, ◌≤◌, length}
use Rattle.graph.specs.inner.SameArrays.{AreLinked}
use Rattle.graph.proofs.dependence.collect.same_arrays.Given as goal

abbrev pub invariant-loop-i : goal.invariant-loop-i
invariant-loop-i l = record {
  firsts : length l.first ≡ 256;
  nexts : length l.next ≡ 128;
  within : l.i ≤ length l.statements;
  linked : AreLinked l.statements l.i l.first l.next;
}
