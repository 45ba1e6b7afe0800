use Rattle.machine_lint.proofs.InOrder.{common-differ}
use Rattle.machine_lint.proofs.sought.words.common.Goals as goal

pub returns-then-text-at : goal.returns-then-text-at
returns-then-text-at c = λ w one other. common-differ w c.args.text.now c.args.other.now c.loop-at.at c.if-text-at.true one other
