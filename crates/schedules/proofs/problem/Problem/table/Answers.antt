use Rattle.std.proofs.Common.{◌<◌, length, ap, ◌∙◌, rules}
use Rattle.schedules.specs.Problems.{AreKinds, ProblemData}
use Rattle.schedules.proofs.problem.Problem.table.Goals as goal

pub returns-clause-operations : goal.returns-clause-operations
returns-clause-operations g c =
    let some : 0 < length c.self.inside.kinds.items = search rules in
    let are : AreKinds c.self.inside.alternatives.items c.self.inside.kinds.items = c.self.invariant.1 some in
    let same = are.same ∙ ap (λ (p : ProblemData). p.operations) c.self.view_is in
    rw (c.deref-2.ensures.value, c.deref-3.ensures.value, same) at c.of_kinds.ensures.operations
