use Rattle.std.proofs.Common.{take}
use Rattle.std.specs.List.{flat_map}
use Rattle.unit_sets.specs.Fullest.{sets_of}
use Rattle.unit_sets.specs.inner.Added.{IsAdded}
use Rattle.unit_sets.proofs.first_sets.push_sets.Given as goal

abbrev pub invariant-loop-number : goal.invariant-loop-number
invariant-loop-number g l = IsAdded l.fn.sets.items (flat_map sets_of (take l.number (g.O.Offers.operations l.operations))) l.sets.items
