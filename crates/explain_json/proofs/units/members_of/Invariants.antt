use Rattle.std.proofs.Common.{◌≡◌, filter}
use Rattle.std.specs.List.{range_with_len}
use Rattle.unit_sets.specs.Fullest.{units_in}
use Rattle.unit_sets.specs.Sets.{is_in}
use Rattle.explain_json.proofs.units.members_of.Given as goal

abbrev pub invariant-loop-unit : goal.invariant-loop-unit
invariant-loop-unit l = l.units.items ≡ filter (is_in (units_in l.set.units)) (range_with_len 0 l.unit)
