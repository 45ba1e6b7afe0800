use Rattle.problems.specs.Faults.{order_fault}
use Rattle.problems.proofs.faults.Among.{IsLeft}
use Rattle.problems.proofs.checking.parts.first_in_orders.Given as goal

abbrev pub invariant-loop-number : goal.invariant-loop-number
invariant-loop-number l = IsLeft (order_fault l.operations) l.orders l.number
