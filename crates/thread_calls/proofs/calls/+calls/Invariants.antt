use Rattle.std.proofs.Common.{◌+◌, ◌*◌}
use Rattle.thread_calls.proofs.calls.+calls.Given as goal

abbrev pub decreases-call_in_threads : goal.decreases-call_in_threads
decreases-call_in_threads g l = 2 * l.count

abbrev pub decreases-others : goal.decreases-others
decreases-others g l = 2 * l.last + 1
