use Rattle.std.proofs.Common.{◌<◌, [], length, get_or, sym, ap, ◌∙◌, subst, arith}
use Rattle.machine_data.specs.Alternative.{AreAlternatives}
use Rattle.machine_data.specs.Machines.{table_of}
use Rattle.loop_data.specs.declared.language.statement.Statement.{Statement}
use Rattle.graph.specs.Units.{alternatives_in}
use Rattle.graph.proofs.finding.Operations.{length-operations, operation_at}
use Rattle.graph.proofs.finding.Operations.{operations_well_formed}
use Rattle.graph.proofs.offers.OfLoopOffers.alternatives.Goals as goal

pub returns-in-Some-clause-value : goal.returns-in-Some-clause-value
returns-in-Some-clause-value c =
    let machine = c.args.self.now.machine.now in
    let loop = c.args.self.now.innermost.now in
    let i = c.args.operation in
    let s = c.index-statements-operation.result in
    let within : i < length loop.statements = omega (arith, c.requires.there, length-operations machine loop) in
    let at = operation_at machine loop i s within (c.index-statements-operation.is ∙ ap (λ l. get_or l i s) c.statements.ensures.value) in
    c.as_slice.ensures.value ∙ c.alternatives.ensures ∙ ap alternatives_in c.in-Some.ensures.value
    ∙ sym (ap (λ (t : Statement). alternatives_in (table_of machine t.opcode)) c.index-statements-operation.is) ∙ sym at.1

pub returns-in-None-clause-value : goal.returns-in-None-clause-value
returns-in-None-clause-value c =
    let machine = c.args.self.now.machine.now in
    let loop = c.args.self.now.innermost.now in
    let i = c.args.operation in
    let s = c.index-statements-operation.result in
    let within : i < length loop.statements = omega (arith, c.requires.there, length-operations machine loop) in
    let at = operation_at machine loop i s within (c.index-statements-operation.is ∙ ap (λ l. get_or l i s) c.statements.ensures.value) in
    sym (at.1 ∙ ap (λ (t : Statement). alternatives_in (table_of machine t.opcode)) c.index-statements-operation.is
    ∙ ap alternatives_in (sym c.in-None.ensures.value))

pub returns-in-None-clause-well_formed : goal.returns-in-None-clause-well_formed
returns-in-None-clause-well_formed c =
    let machine = c.args.self.now.machine.now in
    let loop = c.args.self.now.innermost.now in
    let all = operations_well_formed machine loop c.table.ensures.well_formed c.requires.sound in
    subst AreAlternatives (sym (returns-in-None-clause-value c)) (all c.args.operation [] c.requires.there)
