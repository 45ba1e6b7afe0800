use Rattle.std.proofs.Common.{◌≡◌, vec_len}
use Rattle.acceptance_schedules.proofs.tests.tables.same.Given as goal

abbrev pub invariant-loop-i : goal.invariant-loop-i
invariant-loop-i l = vec_len l.operations ≡ l._i
