use Rattle.std.proofs.Common.{◌+◌, ◌*◌, ◌-◌, ◌==◌, List, ◌++◌, length, take, filter}
use Rattle.machine_data.specs.declared.alternative.Row.{Row}
use Rattle.unit_bound.specs.Uses.{AtMost, CountsRows}
use Rattle.unit_bound.proofs.units.Uses.with_operations.Given as goal

abbrev pub invariant-loop-operation : goal.invariant-loop-operation
invariant-loop-operation g l =
    ((done : List (List (List Row))) → CountsRows done l.fn.self.counts l.fn.self.greatest
    → CountsRows (done ++ filter (λ alternatives. length alternatives == l.freedom) (take l.operation (g.O.Offers.operations l.operations))) l.uses.counts l.uses.greatest)
    × AtMost (2048 * (l.freedom - 1) + 16 * l.operation) l.uses.counts
