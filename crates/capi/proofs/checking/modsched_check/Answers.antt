use Rattle.capi.proofs.Ending.{is_checked, faulty_check}
use Rattle.capi.proofs.checking.modsched_check.Goals as goal

pub returns-in-Ok-judged : goal.returns-in-Ok-judged
returns-in-Ok-judged c = is_checked c.args.problem.now c.args.interval c.args.times.now c.args.alternatives.now c.args.numbers.now
    c.in-Ok-judged.told c.in-Ok-judged.status c.in-Ok.problem c.if-times-alternatives.false c.in-Ok.ensures c.in-Ok-judged.ensures

pub returns-in-Err-Fault : goal.returns-in-Err-Fault
returns-in-Err-Fault c = faulty_check c.args.problem.now c.args.interval c.args.times.now c.args.alternatives.now c.args.numbers.now
    c.faulty_verdict.result c.in-Err-Fault.fault
    c.if-times-alternatives.false (rw c.in-Err-Fault.field-0-is at c.in-Err-Fault.ensures) (rw c.in-Err-Fault.fault-is at c.faulty_verdict.ensures)
