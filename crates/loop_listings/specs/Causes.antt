-- Why an interval gives no kernel, where its attempt fails.
use Rattle.modulo.specs.declared.outcome.attempts.Culprit.{Culprit}
use Rattle.modulo.specs.declared.outcome.attempts.Failure.{Failure}
use Rattle.modulo.specs.declared.outcome.attempts.Failure.TheVariants as failure
use Rattle.modulo.specs.Culprits.{failure_of}
use Rattle.loop_listings.specs.declared.causes.Cause.{Cause}
use Rattle.loop_listings.specs.declared.causes.Cause.TheVariants.{Table, Budget, Stages}

-- the cause that a failed attempt is
abbrev pub cause_of : Failure → Cause
cause_of failure.Table = Table
cause_of failure.Budget = Budget
cause_of failure.Stages = Stages

-- .. and that of an attempt that this keeps from a schedule
abbrev pub culprit_cause : Culprit → Cause
culprit_cause culprit = cause_of (failure_of culprit)
