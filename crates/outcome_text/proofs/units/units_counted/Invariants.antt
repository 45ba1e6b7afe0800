use Rattle.std.proofs.Common.{◌≡◌, List}
use Rattle.machine_data.specs.declared.alternative.Row.{Row}
use Rattle.outcome_text.specs.Notes.{units_with}
use Rattle.outcome_text.specs.inner.Counts.{AreUses}
use Rattle.outcome_text.proofs.units.units_counted.Given as goal

abbrev pub invariant-loop-unit : goal.invariant-loop-unit
invariant-loop-unit l = (rows : List Row) → AreUses rows l.counts → l.full.items ≡ units_with l.unit rows l.uses
