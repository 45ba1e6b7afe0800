use Rattle.std.proofs.Common.{arith, rules}
use Rattle.rotating.proofs.emitted.Stated.{alternatives-few}
use Rattle.rotating.proofs.kernels.operations.alternative_of.Goals as goal

pub overflow_cast-result : goal.overflow_cast-result
overflow_cast-result c =
    let few = alternatives-few c.args.schedule.now.problem.operations c.alternative.ensures.well_formed.problem.is_problem.offered c.args.op c.requires in
    let there = c.alternative.ensures.there in
    search (rules, arith)
