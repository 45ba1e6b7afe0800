use Rattle.std.proofs.Common.{subst, sym}
use Rattle.std.specs.Prelude.{Err}
use Rattle.command_line.specs.declared.command.Work.{Work}
use Rattle.loop_reader.specs.Meaning.{loops_in}
use Rattle.modsched.specs.Engine.{LoopsBring}
use Rattle.modsched.specs.Naming.{unknown_in}
use Rattle.modsched.proofs.Refused.{machine-refused, machine-unnamed, plain-unnamed}
use Rattle.modsched.proofs.commands.work_text.Goals as goal

pub returns-in-Err-clause-brings : goal.returns-in-Err-clause-brings
returns-in-Err-clause-brings g c =
    subst (λ (w : Work). LoopsBring w c.args.names.now c.args.machine.now (loops_in c.args.loops.now) (unknown_in c.args.names.now (loops_in c.args.loops.now)) (Err c.in-Err.status))
    (sym c.in-Plain.is)
    (plain-unnamed c.in-Plain.trip c.in-Plain.workers c.args.names.now c.args.machine.now (loops_in c.args.loops.now) c.in-Err.status c.in-Err.ensures.status)

pub returns-in-Err-machine_of-clause-brings : goal.returns-in-Err-machine_of-clause-brings
returns-in-Err-machine_of-clause-brings g c =
    subst (λ (w : Work). LoopsBring w c.args.names.now c.args.machine.now (loops_in c.args.loops.now) (unknown_in c.args.names.now (loops_in c.args.loops.now)) (Err c.in-Err-machine_of.status))
    (sym c.in-OnMachine.is)
    (machine-refused c.in-OnMachine.machine c.in-OnMachine.task c.args.names.now c.args.machine.now (loops_in c.args.loops.now) c.in-Err-machine_of.status c.in-Err-machine_of.ensures.status)

pub returns-in-Err-loops_named-clause-brings : goal.returns-in-Err-loops_named-clause-brings
returns-in-Err-loops_named-clause-brings g c =
    subst (λ (w : Work). LoopsBring w c.args.names.now c.args.machine.now (loops_in c.args.loops.now) (unknown_in c.args.names.now (loops_in c.args.loops.now)) (Err c.in-Err-loops_named.status))
    (sym c.in-OnMachine.is)
    (machine-unnamed c.in-OnMachine.machine c.in-OnMachine.task c.args.names.now c.args.machine.now c.in-Ok-machine_of.machine (loops_in c.args.loops.now) c.in-Err-loops_named.status
    c.in-Ok-machine_of.ensures.machine c.in-Err-loops_named.ensures.status)
