-- What a command writes.
use Rattle.std.specs.Prelude.{ℕ, Bool, List}

-- a text that is written, with whether every loop is met
pub record Written : Type 0 where
  pub text : List ℕ
  pub all_met : Bool
