use Rattle.std.proofs.Common.{length, ap, sym, subst, arith}
use Rattle.std.specs.List.{All}
use Rattle.loop_data.specs.Loops.{MayRead}
use Rattle.rotating.proofs.emitted.Stated.{operands-limited, operands-may}
use Rattle.rotating.proofs.kernels.operations.operation_of.Goals as goal

pub sources_of-requires-clause-few : goal.sources_of-requires-clause-few
sources_of-requires-clause-few c =
    let l = operands-limited c.args.schedule.now.problem.loop c.prepared-prepared.ensures.well_formed.problem.loop c.args.op _ c.requires.statement in
    let e = ap length c.as_slice-operands.ensures in
    omega arith

pub sources_of-requires-clause-operands : goal.sources_of-requires-clause-operands
sources_of-requires-clause-operands c =
    let m = operands-may c.args.schedule.now.problem.loop c.prepared-prepared.ensures.well_formed.problem.loop c.args.op _ c.requires.statement in
    (m.0, subst (All (MayRead c.args.schedule.now.problem.loop m.0)) (sym c.as_slice-operands.ensures) m.1)
