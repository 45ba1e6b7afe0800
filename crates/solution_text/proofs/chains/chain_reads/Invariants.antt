use Rattle.std.proofs.Common.{◌≡◌, ◌≤◌, length}
use Rattle.solution_text.specs.inner.Chains.{AreChained, readers_of}
use Rattle.solution_text.proofs.chains.chain_reads.Given as goal

abbrev pub invariant-loop-number : goal.invariant-loop-number
invariant-loop-number l = (l.number ≤ length l.reads) × (length l.firsts ≡ length l.initial.firsts) × AreChained (readers_of l.reads) l.number l.firsts l.nexts

abbrev pub decreases-loop-number : goal.decreases-loop-number
decreases-loop-number l = l.number
