-- Where faults are told.
use Rattle.problem_tables.specs.declared.fault.Told.{Told}
use Rattle.problem_faults.specs.declared.refused_problems.Wrong.{Wrong}
use Rattle.problem_tables.specs.declared.judging.Spot.{Spot}

abbrev pub on_spot : Spot → Wrong → Told
on_spot at what = record { column = at.column; width = at.width; what = what }
