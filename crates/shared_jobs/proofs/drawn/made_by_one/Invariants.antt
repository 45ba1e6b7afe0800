use Rattle.std.proofs.Common.{length}
use Rattle.std.specs.List.{All}
use Rattle.shared_jobs.specs.inner.Slots.{IsMadeBelow}
use Rattle.shared_jobs.proofs.drawn.made_by_one.Given as goal

abbrev pub invariant-loop : goal.invariant-loop
invariant-loop g l = All (IsMadeBelow g.F.Fn l.make (length l.jobs)) l.made.items
