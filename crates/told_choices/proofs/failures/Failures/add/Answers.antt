use Rattle.std.proofs.Common.{◌+◌, List, length, sym, subst}
use Rattle.loop_schedules.specs.Problems.{mii_of}
use Rattle.told_intervals.specs.Reasons.{FailsFor}
use Rattle.told_choices.specs.declared.why.Why.{Why}
use Rattle.told_choices.specs.inner.Collected.{AreFailures}
use Rattle.told_choices.proofs.Collecting.{attempt-more}
use Rattle.told_choices.proofs.failures.Failures.add.Goals as goal

pub returns-in_ok-push-in-Attempt-clause-are : goal.returns-in_ok-push-in-Attempt-clause-are
returns-in_ok-push-in-Attempt-clause-are c problem are fails =
    let old = c.args.self.now in
    let n = mii_of problem + length old.list.items in
    subst (λ (ws : List Why). AreFailures problem ws old.lack) (sym c.in_ok-push-in-Attempt.ensures.items)
    (attempt-more problem old.list.items old.lack c.in-Attempt.culprit are (subst (FailsFor problem n) c.in-Attempt.is fails))
