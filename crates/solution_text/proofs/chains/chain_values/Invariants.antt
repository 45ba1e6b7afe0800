use Rattle.std.proofs.Common.{◌≡◌, ◌≤◌, length}
use Rattle.solution_text.specs.inner.Chains.{AreChained, makers_of}
use Rattle.solution_text.proofs.chains.chain_values.Given as goal

abbrev pub invariant-loop-number : goal.invariant-loop-number
invariant-loop-number l = (l.number ≤ length l.values) × (length l.firsts ≡ length l.initial.firsts) × AreChained (makers_of l.values) l.number l.firsts l.nexts

abbrev pub decreases-loop-number : goal.decreases-loop-number
decreases-loop-number l = l.number
