-- What calls in threads leave of items.
use Rattle.std.specs.Prelude.{ℕ, List}
use Rattle.std.specs.Borrow.{MutBor}
use Rattle.std.specs.Fn.{Shared}
use Rattle.std.specs.Fork.{ChangesAt, ChangesEach}

-- an item of this number was changed by its call
pub record IsChanged {F T : Type 0} (g : Shared F (ℕ × (MutBor T × Unit {0})) (Unit {0} × (MutBor T × Unit {0}))) (call : F) (number : ℕ) (before after : T) : Type 0 where
  pub by_call : ChangesAt g call number before after

-- .. and each of some items by its own
pub record AreChanged {F T : Type 0} (g : Shared F (ℕ × (MutBor T × Unit {0})) (Unit {0} × (MutBor T × Unit {0}))) (call : F) (before after : List T) : Type 0 where
  pub each : ChangesEach g call before after
