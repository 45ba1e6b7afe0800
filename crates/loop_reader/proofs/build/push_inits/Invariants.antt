use Rattle.std.proofs.Common.{◌≡◌, ◌++◌}
use Rattle.loop_reader.specs.inner.Building.{row_of}
use Rattle.loop_reader.proofs.build.push_inits.Given as goal

abbrev pub invariant-loop-m : goal.invariant-loop-m
invariant-loop-m l = l.inits.items ≡ l.fn.inits.items ++ row_of l.given.inits l.statement l.m
