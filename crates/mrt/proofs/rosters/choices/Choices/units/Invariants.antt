use Rattle.std.proofs.Common.{◌<◌, ◌≤◌, take}
use Rattle.std.specs.List.{All}
use Rattle.mrt.proofs.rosters.choices.Choices.units.Given as goal

-- the units of the slots so far are below
abbrev pub invariant-loop-slot : goal.invariant-loop-slot
invariant-loop-slot l = (l.units ≤ 64) × All (λ s. s.row.unit < l.units) (take l.slot-index l.slot-items)
