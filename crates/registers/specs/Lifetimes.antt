-- When values live, in cycles.
use Rattle.std.specs.Prelude.{ℤ, pos, ◌+ℤ◌, ◌*ℤ◌, ◌≤ℤ◌, ℕ}
use Rattle.registers.specs.declared.lifetime.Lifetime.{Lifetime}

-- the instance of an iteration, any whole number, lives in a cycle
pub record IsLiveIn (ii : ℕ) (life : Lifetime) (iteration cycle : ℤ) : Type 0 where
  pub begun : (pos life.first +ℤ (iteration *ℤ pos ii)) ≤ℤ cycle
  pub lasts : cycle ≤ℤ (pos life.last +ℤ (iteration *ℤ pos ii))
