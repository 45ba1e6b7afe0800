use Rattle.std.proofs.Common.{◌≡◌, take}
use Rattle.std.specs.List.{fold}
use Rattle.unit_sets.specs.Fullest.{all_rows, with_row}
use Rattle.unit_sets.proofs.units.with_alternatives.Given as goal

abbrev pub invariant-loop-alternative : goal.invariant-loop-alternative
invariant-loop-alternative l = l.units ≡ fold with_row l.set (all_rows (take l.alternative-index l.alternatives))
