use Rattle.std.proofs.Common.{rules}
use Rattle.machine_lint.proofs.InOrder.{begins-length}
use Rattle.machine_lint.proofs.sought.words.most_of.Goals as goal

pub returns-else-leads_on : goal.returns-else-leads_on
returns-else-leads_on c = λ w one other. let low = begins-length w c.args.word.now one in search rules
