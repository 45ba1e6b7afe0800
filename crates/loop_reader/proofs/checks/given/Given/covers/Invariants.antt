use Rattle.std.proofs.Common.{◌≡◌, true}
use Rattle.loop_reader.specs.inner.Checks.{covers}
use Rattle.loop_reader.proofs.checks.given.Given.covers.Given as goal

abbrev pub invariant-loop-m : goal.invariant-loop-m
invariant-loop-m l = covers l.self.inits l.value l.m ≡ true
