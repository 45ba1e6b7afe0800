use Rattle.std.proofs.Common.{◌≡◌, ◌≤◌, ◌*◌}
use Rattle.registers.specs.Crowds.{crowd_in}
use Rattle.registers.proofs.values.crowd.crowd_in.Given as goal

abbrev pub invariant-loop-k : goal.invariant-loop-k
invariant-loop-k l = (l.crowd ≡ crowd_in l.ii l.row l.lives l.k) × (l.crowd ≤ l.k * 4294983680)
