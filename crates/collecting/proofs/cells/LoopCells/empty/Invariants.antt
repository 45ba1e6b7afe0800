use Rattle.std.proofs.Common.{◌≡◌}
use Rattle.std.specs.Prelude.{replicate, None}
use Rattle.collecting.proofs.cells.LoopCells.empty.Given as goal

abbrev pub invariant-loop : goal.invariant-loop
invariant-loop l = l.row.cells.items ≡ replicate l.counter None
