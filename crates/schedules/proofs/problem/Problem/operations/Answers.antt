use Rattle.std.proofs.Common.{length, ap, arith}
use Rattle.schedules.specs.Problems.{ProblemData}
use Rattle.schedules.proofs.problem.Problem.operations.Goals as goal

pub returns-clause-value : goal.returns-clause-value
returns-clause-value c =
    let same = ap (λ (p : ProblemData). length p.operations) c.self.view_is in
    omega (arith, c.len.ensures, same)
