use Rattle.std.proofs.Common.{◌≡◌, map, length}
use Rattle.std.specs.List.{range_with_len}
use Rattle.registers.specs.Crowds.{crowd_in}
use Rattle.registers.specs.Values.{greatest_of}
use Rattle.solutions.proofs.copies.greatest_crowd.Given as goal

abbrev pub invariant-loop-row : goal.invariant-loop-row
invariant-loop-row l = l.greatest ≡ greatest_of (map (λ row. crowd_in l.ii row l.lives (length l.lives)) (range_with_len 0 l.row))
