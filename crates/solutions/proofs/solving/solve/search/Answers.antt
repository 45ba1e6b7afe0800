use Rattle.std.proofs.Common.{sym, subst}
use Rattle.solutions.specs.Told.{IsSearched}
use Rattle.solutions.specs.inner.Searching.{IsFirstMet}
use Rattle.solutions.proofs.Searching.{searched-met}
use Rattle.solutions.proofs.solving.solve.search.Goals as goal

pub returns-in-Ok-Some : goal.returns-in-Ok-Some
returns-in-Ok-Some c =
    let p = c.args.problem.now in
    subst (IsSearched p) (sym c.met.ensures) (searched-met p c.in-Ok-Some.solution (subst (IsFirstMet p) c.in-Ok-Some.field-0-is c.in-Ok-Some.ensures.found))
