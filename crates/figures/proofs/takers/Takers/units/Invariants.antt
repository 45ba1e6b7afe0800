use Rattle.std.proofs.Common.{◌≡◌, filter}
use Rattle.std.specs.List.{range_with_len}
use Rattle.figures.specs.Slots.{is_used}
use Rattle.figures.proofs.takers.Takers.units.Given as goal

abbrev pub invariant-loop-unit : goal.invariant-loop-unit
invariant-loop-unit l = l.units.items ≡ filter (is_used l.self) (range_with_len 0 l.unit)
