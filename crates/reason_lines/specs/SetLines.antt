-- The line of the fullest set of units.
use Rattle.std.specs.Prelude.{ℕ, if◌then◌else◌, codes, List, [], ◌++◌}
use Rattle.std.specs.List.{flat_map, range_with_len}
use Rattle.unit_sets.specs.declared.fullest.UnitSet.{UnitSet}
use Rattle.unit_sets.specs.Fullest.{units_in}
use Rattle.unit_sets.specs.Sets.{is_in}
use Rattle.writing.specs.Words.{told}

-- what a unit is called after a blank; nothing where it is none of the set
abbrev pub member_text : (ℕ → List ℕ) → UnitSet → ℕ → List ℕ
member_text name set unit = if is_in (units_in set.units) unit then codes " " ++ name unit else []

-- what the units of the set are called, of so many units, in order
abbrev pub members_text : (ℕ → List ℕ) → ℕ → UnitSet → List ℕ
members_text name number set = flat_map (member_text name set) (range_with_len 0 number)

-- ` take R rows: R/U cycles, need K`, of U units
abbrev pub counts_text : UnitSet → List ℕ
counts_text set =
    (told (codes " take ") set.rows ++ told (codes " rows: ") set.rows) ++ (told (codes "/") set.size ++ told (codes " cycles, need ") set.need)

-- `units U V .. take R rows: R/U cycles, need K`, with a line feed
abbrev pub set_line : (ℕ → List ℕ) → ℕ → UnitSet → List ℕ
set_line name number set = ((codes "units" ++ members_text name number set) ++ counts_text set) ++ codes "\n"
