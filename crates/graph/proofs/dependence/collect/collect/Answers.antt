use Rattle.std.proofs.Common.{◌≡◌, ◌<◌, ◌≤◌, [], length, get_or, Some, None, arith}
use Rattle.std.specs.List.{slice_get}
use Rattle.loop_data.specs.declared.language.statement.Statement.{Statement}
use Rattle.graph.specs.Subscripts.{GainsEdges, HasUses}
use Rattle.std.proofs.lemmas.Option.{slice_get-get_or}
use Rattle.machine_data.specs.declared.opcode.Opcode.TheVariants.{Load}
use Rattle.graph.proofs.finding.Found.{all-more, GainsEdges-found, found-within}
use Rattle.graph.proofs.dependence.collect.collect.Goals as goal

no_statement : Statement
no_statement = record { opcode = Load; name = None; place = None; operands = [] }

pub loop-to-preserved : goal.loop-to-preserved
loop-to-preserved c =
    let d : Statement = no_statement in
    let reader : Statement = get_or c.args.statements.now c.loop-to.to d in
    let within : c.loop-to.to < length c.args.statements.now = c.loop-to-test.true in
    let at : slice_get c.args.statements.now c.loop-to.to ≡ Some reader = slice_get-get_or c.args.statements.now c.loop-to.to d within in
    let used : GainsEdges c.args.statements.now c.args.latencies.now c.loop-to.list.items c.push_uses.new.list.items = c.in_ok-push_uses.ensures.gains in
    let met : GainsEdges c.args.statements.now c.args.latencies.now c.push_uses.new.list.items c.push_meetings.new.list.items = c.in_ok-push_meetings.ensures.gains in
    let uses : HasUses c.args.latencies.now c.loop-to.to reader.operands c.push_uses.new.list.items = c.in_ok-push_uses.ensures.complete reader at in (
      GainsEdges-found c.args.statements.now c.args.latencies.now c.push_uses.new.list.items c.push_meetings.new.list.items met
          (GainsEdges-found c.args.statements.now c.args.latencies.now c.loop-to.list.items c.push_uses.new.list.items used c.loop-to.invariant.0),
      all-more c.args.statements.now c.args.latencies.now c.loop-to.to c.loop-to.list.items c.push_uses.new.list.items c.push_meetings.new.list.items reader
          at c.loop-to.invariant.1 used uses met c.in_ok-push_meetings.ensures.complete,
    )

pub returns-clause-complete : goal.returns-clause-complete
returns-clause-complete c = λ e found.
    let within : e.to < length c.args.statements.now = found-within c.args.statements.now c.args.latencies.now e found in
    let past : length c.args.statements.now ≤ c.loop-to.to = c.loop-to-test.false in
    c.loop-to.invariant.1 e (omega arith) found
