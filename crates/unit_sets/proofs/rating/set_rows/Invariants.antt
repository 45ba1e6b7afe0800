use Rattle.std.proofs.Common.{◌≡◌, ◌*◌, ◌≤◌, take}
use Rattle.unit_sets.specs.Fullest.{units_in}
use Rattle.unit_sets.specs.Sets.{set_rows as the_set_rows}
use Rattle.unit_sets.proofs.rating.set_rows.Given as goal

abbrev pub invariant-loop-number : goal.invariant-loop-number
invariant-loop-number g l = (l.rows ≡ the_set_rows (units_in l.set) (take l.number (g.O.Offers.operations l.operations))) × (l.rows ≤ 16 * l.number)
