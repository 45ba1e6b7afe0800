use Rattle.board.proofs.Drawing.{wet, draws_count, draws_ascend, draws_end}
use Rattle.board.proofs.law.draws_end.Goals as goal

pub returns-clause-wet : goal.returns-clause-wet
returns-clause-wet c = wet

pub returns-clause-count : goal.returns-clause-count
returns-clause-count c = draws_count

pub returns-clause-ascend : goal.returns-clause-ascend
returns-clause-ascend c = draws_ascend

pub returns-clause-end : goal.returns-clause-end
returns-clause-end c = draws_end
