use Rattle.std.proofs.Common.{◌≡◌, map, take}
use Rattle.capi.specs.Given.{holds_of, rows_of}
use Rattle.capi.proofs.drafting.alternatives_of.Given as goal

abbrev pub invariant-loop-holds : goal.invariant-loop-holds
invariant-loop-holds l = map rows_of l.made.items ≡ map holds_of (take l.holds-index l.alternatives)
