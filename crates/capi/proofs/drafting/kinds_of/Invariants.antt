use Rattle.std.proofs.Common.{◌≡◌, map, take}
use Rattle.capi.specs.Given.{given_kind, kind_of}
use Rattle.capi.proofs.drafting.kinds_of.Given as goal

abbrev pub invariant-loop-kind : goal.invariant-loop-kind
invariant-loop-kind l = map kind_of l.made.items ≡ map given_kind (take l.kind-index l.kinds)
