use Rattle.std.proofs.Common.{◌<◌, ◌+◌, ◌%◌, ap, sym, ◌∙◌, subst, arith}
use Rattle.loop_data.specs.Loops.{MayRead}
use Rattle.loop_data.specs.declared.language.statement.Operand.TheVariants.{Value}
use Rattle.kernel.specs.declared.kernels.operation.Source.TheVariants.{Register}
use Rattle.overlap.specs.Allotments.{allotted_number}
use Rattle.overlap.specs.Emission.{source_of}
use Rattle.rotating.proofs.emitted.Ranks.{number-below, read-within}
use Rattle.rotating.proofs.kernels.naming.source_of.Goals as goal

pub register_name-requires-clause-number : goal.register_name-requires-clause-number
register_name-requires-clause-number c =
    let loop = c.args.schedule.now.problem.loop in
    let may : MayRead loop c.requires.operand.0 (Value c.in-Value.statement c.in-Value.distance) = subst (MayRead loop c.requires.operand.0) c.in-Value.is c.requires.operand.1 in
    let n = c.requires.numbers.each c.in-Value.statement (read-within loop c.requires.operand.0 c.in-Value.statement c.in-Value.distance may) in
    let b : allotted_number loop c.args.allotment.now c.in-Value.statement < c.args.allotment.now.registers = number-below c.args.allotment.now c.registers.ensures.well_formed _ in
    let r = c.registers.ensures.value in
    omega arith

pub returns-in-Value : goal.returns-in-Value
returns-in-Value c =
    let loop = c.args.schedule.now.problem.loop in
    let may : MayRead loop c.requires.operand.0 (Value c.in-Value.statement c.in-Value.distance) = subst (MayRead loop c.requires.operand.0) c.in-Value.is c.requires.operand.1 in
    let n = c.requires.numbers.each c.in-Value.statement (read-within loop c.requires.operand.0 c.in-Value.statement c.in-Value.distance may) in
    let v = c.register_name.ensures.value in
    ap Register (v ∙ ap (λ m. (m + c.in-Value.distance + c.args.stage) % c.registers.result) n ∙ ap (λ r. (allotted_number loop c.args.allotment.now c.in-Value.statement + c.in-Value.distance + c.args.stage) % r) c.registers.ensures.value)
    ∙ ap (source_of c.args.schedule.now c.args.allotment.now c.args.stage) (sym c.in-Value.is)
