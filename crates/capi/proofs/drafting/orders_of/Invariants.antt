use Rattle.std.proofs.Common.{◌≡◌, map, take}
use Rattle.capi.specs.Given.{order_of}
use Rattle.capi.proofs.drafting.orders_of.Given as goal

abbrev pub invariant-loop-order : goal.invariant-loop-order
invariant-loop-order l = l.made.items ≡ map order_of (take l.order-index l.orders)
