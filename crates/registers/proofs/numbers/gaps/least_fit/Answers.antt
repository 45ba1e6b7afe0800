use Rattle.registers.proofs.allotted.Fitting.{fit-within, least-ahead, least-second}
use Rattle.registers.proofs.numbers.gaps.least_fit.Goals as goal

pub returns-in-Some : goal.returns-in-Some
returns-in-Some c =
    let f = c.in-Some.ensures in
    let there = fit-within c.args.gaps.now c.args.registers c.in-Some.fit.gap c.in-Some.fit.turn c.args.arc.phase c.args.arc.length c.requires.order f.0 in
    (f.0, there, least-ahead c.args.gaps.now c.args.registers c.args.arc.phase c.args.arc.length c.args.arc.turn c.in-Some.fit.turn c.requires.turn there f.1 f.2)

pub returns-in-None : goal.returns-in-None
returns-in-None c =
    least-second c.args.gaps.now c.args.registers c.args.arc.phase c.args.arc.length c.args.arc.turn c.first_fit-in-None.result c.requires.order c.requires.turn c.in-None.ensures c.first_fit-in-None.ensures
