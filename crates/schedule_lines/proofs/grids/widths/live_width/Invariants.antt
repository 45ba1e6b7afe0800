use Rattle.std.proofs.Common.{◌≡◌, ◌∷◌, map, take}
use Rattle.std.specs.Prelude.{codes, decimal}
use Rattle.schedule_lines.specs.Columns.{width_of}
use Rattle.schedule_lines.proofs.grids.widths.live_width.Given as goal

abbrev pub invariant-loop-count : goal.invariant-loop-count
invariant-loop-count l = l.width ≡ width_of (codes "live" ∷ map decimal (take l.count-index l.counts))
