use Rattle.std.proofs.Common.{arith, sym}
use Rattle.loop_lint.proofs.Tables.{covers_false, covers_true}
use Rattle.loop_lint.proofs.block.Known.covers.Goals as goal

pub returns-then-not-self-before : goal.returns-then-not-self-before
returns-then-not-self-before c = sym (covers_false c.args.self.now.inits c.loop-before.before c.args.distance (omega arith) c.if-not-self-before.true)

pub returns : goal.returns
returns c = sym (covers_true c.args.self.now.inits c.args.distance (λ k h. c.loop-before.invariant k (omega arith)))
