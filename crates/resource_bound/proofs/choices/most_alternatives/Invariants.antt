use Rattle.std.proofs.Common.{◌≤◌, List, length, take}
use Rattle.std.specs.List.{All}
use Rattle.machine_data.specs.declared.alternative.Row.{Row}
use Rattle.resource_bound.proofs.choices.most_alternatives.Given as goal

abbrev pub invariant-loop-number : goal.invariant-loop-number
invariant-loop-number g l = record {
  all : All (λ (alternatives : List (List Row)). length alternatives ≤ l.most) (take l.number (g.O.Offers.operations l.operations));
  few : l.most ≤ 16;
}
