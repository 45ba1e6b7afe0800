use Rattle.std.proofs.Common.{◌≡◌, take}
use Rattle.capi.proofs.drafting.operations_of.Given as goal

abbrev pub invariant-loop-kind : goal.invariant-loop-kind
invariant-loop-kind l = l.made.items ≡ take l.kind-index l.operations
