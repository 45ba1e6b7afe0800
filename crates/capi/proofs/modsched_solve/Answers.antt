use Rattle.std.proofs.Common.{sym, ◌∙◌}
use Rattle.capi.proofs.Ending.{told, faulty}
use Rattle.capi.proofs.modsched_solve.Goals as goal

pub returns-in-Ok-solve : goal.returns-in-Ok-solve
returns-in-Ok-solve c = told c.args.problem.now c.args.ratio c.args.ceiling
    (record { times = c.args.times.now; alternatives = c.args.alternatives.now; numbers = c.args.numbers.now })
    (record { times = c.tell.new.times; alternatives = c.tell.new.alternatives; numbers = c.tell.new.numbers })
    c.tell.new.answer c.tell.result c.in-Ok.problem c.in-Ok-solve.outcome
    (sym c.misfit_of-misfit.ensures ∙ c.if-misfit-ne0.false) c.in-Ok.ensures c.in-Ok-solve.ensures.exact c.in-Ok-solve.ensures.right c.tell.ensures

pub returns-in-Err-Fault : goal.returns-in-Err-Fault
returns-in-Err-Fault c = faulty c.args.problem.now c.args.ratio c.args.ceiling
    (record { times = c.args.times.now; alternatives = c.args.alternatives.now; numbers = c.args.numbers.now })
    c.fault_answer.result c.in-Err-Fault.fault
    (sym c.misfit_of-misfit.ensures ∙ c.if-misfit-ne0.false) (rw c.in-Err-Fault.field-0-is at c.in-Err-Fault.ensures) (rw c.in-Err-Fault.fault-is at c.fault_answer.ensures)
