use Rattle.std.proofs.Common.{◌*◌, take}
use Rattle.unit_bound.specs.Units.{chosen_rows}
use Rattle.graph.specs.Units.{operations_of}
use Rattle.unit_bound.specs.Uses.{AtMost, Tallies}
use Rattle.resource_bound.proofs.unit_lines.uses_of.Given as goal

abbrev pub invariant-loop-number : goal.invariant-loop-number
invariant-loop-number l =
    Tallies (chosen_rows (take l.number (operations_of l.machine l.innermost)) l.choices) l.uses.counts l.uses.greatest × AtMost (16 * l.number) l.uses.counts
