use Rattle.std.proofs.Common.{Some, subst}
use Rattle.ims.specs.Culprits.{AnswersCulprit, IsAnswer}
use Rattle.overlap.specs.Lifetimes.{lifetimes_of}
use Rattle.registers.proofs.allotted.Least.{least-is_lawful}
use Rattle.rotating.specs.Allotting.{IsAllotted}
use Rattle.told_intervals.proofs.Evidenced.{attempt-fails}
use Rattle.told_intervals.proofs.evidence.tried_on.Goals as goal

pub returns-in-Failed-clause-exact : goal.returns-in-Failed-clause-exact
returns-in-Failed-clause-exact c =
    let p = c.args.prepared.now in
    let ii = c.args.table.now.interval in
    attempt-fails p ii c.in-Failed.culprit
    (subst (λ n. AnswersCulprit p ii n (Some c.in-Failed.culprit)) c.budget.ensures.value (subst (IsAnswer p ii c.budget.result) c.in-Failed.is c.in_ok-schedule.ensures.exact))

pub emit-requires-clause-suits : goal.emit-requires-clause-suits
emit-requires-clause-suits c =
    let s = c.in-Placed.schedule in
    let a = c.in-All.allotment in
    let both = subst (IsAllotted s c.from.result) c.in-All.is c.in_ok-allotment.ensures.exact in
    least-is_lawful s.ii a.registers (lifetimes_of s) a.numbers both.1
