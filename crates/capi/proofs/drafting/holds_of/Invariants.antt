use Rattle.std.proofs.Common.{◌≡◌, map, take}
use Rattle.capi.specs.Given.{hold_of}
use Rattle.capi.proofs.drafting.holds_of.Given as goal

abbrev pub invariant-loop-hold : goal.invariant-loop-hold
invariant-loop-hold l = l.made.items ≡ map hold_of (take l.hold-index l.holds)
