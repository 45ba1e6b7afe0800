use Rattle.std.proofs.Common.{◌≡◌, vec_len}
use Rattle.acceptance_schedules.proofs.tests.tables.wide.Given as goal

abbrev pub invariant-loop-unit : goal.invariant-loop-unit
invariant-loop-unit l = vec_len l.operations ≡ l.unit
