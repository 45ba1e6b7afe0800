use Rattle.std.proofs.Common.{arith}
use Rattle.machine_lint.proofs.Values.{counts-some}
use Rattle.machine_lint.proofs.judge.counts.Goals as goal

pub returns-then-len-ge1 : goal.returns-then-len-ge1
returns-then-len-ge1 c = counts-some _ c.in-Some.elements.now _ _ c.in-Some.ensures c.len-then-len-ge1.ensures (omega (arith, c.if-len-ge1.true, c.len.ensures, c.len-then-len-ge1.ensures))
