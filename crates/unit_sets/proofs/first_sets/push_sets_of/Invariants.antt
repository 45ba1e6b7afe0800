use Rattle.std.proofs.Common.{map}
use Rattle.std.specs.List.{flat_map, range_with_len}
use Rattle.unit_sets.specs.Fullest.{row_at, units_of}
use Rattle.unit_sets.specs.inner.Added.{IsAdded}
use Rattle.unit_sets.proofs.first_sets.push_sets_of.Given as goal

abbrev pub invariant-loop-place : goal.invariant-loop-place
invariant-loop-place l = IsAdded l.fn.sets.items (map (λ place. units_of (flat_map (row_at place) l.alternatives)) (range_with_len 0 l.place)) l.sets.items
