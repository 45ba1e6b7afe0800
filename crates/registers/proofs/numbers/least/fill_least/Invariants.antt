use Rattle.std.proofs.Common.{◌≡◌, ◌<◌, ℕ, Some, take}
use Rattle.std.specs.Prelude.{slice_get, slice_index}
use Rattle.registers.specs.declared.lifetime.Lifetime.{Lifetime}
use Rattle.registers.specs.Allotments.{IsLeast}
use Rattle.registers.proofs.allotted.Placing.{HaveGaps}
use Rattle.registers.proofs.numbers.least.fill_least.Given as goal

abbrev pub invariant-loop-k : goal.invariant-loop-k
invariant-loop-k l = record {
  gaps : HaveGaps l.ii l.registers l.origin l.lives l.numbers l.k l.gaps.items;
  least : (n : ℕ) (life : Lifetime) → n < l.k → slice_get l.lives n ≡ Some life → IsLeast l.ii l.registers (take n l.lives) (take n l.numbers) life (slice_index l.numbers n);
}
