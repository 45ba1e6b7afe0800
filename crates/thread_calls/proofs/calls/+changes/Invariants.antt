use Rattle.std.proofs.Common.{◌+◌, ◌*◌, length}
use Rattle.thread_calls.proofs.calls.+changes.Given as goal

abbrev pub decreases-change_all : goal.decreases-change_all
decreases-change_all g l = 4 * length l.items.now

abbrev pub decreases-change_both : goal.decreases-change_both
decreases-change_both g l = 4 * length l.others.now + 3

abbrev pub decreases-change_both-rest : goal.decreases-change_both-rest
decreases-change_both-rest g l = 4 * length l.others.now + 1
