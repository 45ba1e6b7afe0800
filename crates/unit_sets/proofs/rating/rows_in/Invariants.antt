use Rattle.std.proofs.Common.{◌≡◌, take}
use Rattle.unit_sets.specs.Fullest.{units_in}
use Rattle.unit_sets.specs.Sets.{rows_in as the_rows_in}
use Rattle.unit_sets.proofs.rating.rows_in.Given as goal

abbrev pub invariant-loop-row : goal.invariant-loop-row
invariant-loop-row l = l.count ≡ the_rows_in (units_in l.set) (take l.row-index l.rows)
