-- A value that no register is left for.
use Rattle.std.specs.Prelude.{◌≡◌, ℕ, List, [], ◌∷◌, ◌++◌, take, Some, slice_get}
use Rattle.registers.specs.declared.lifetime.Lifetime.{Lifetime}
use Rattle.registers.specs.Allotments.{IsLawfulAllotment, AreLeast}

-- after the least numbers of those before it, this lifetime has no number. Those before it have one each, so it is the first
pub record HasNone (ii registers : ℕ) (lives : List Lifetime) (life : Lifetime) : Type 0 where
  pub place : ℕ
  pub is_life : slice_get lives place ≡ Some life
  pub numbers : List ℕ
  pub least_before : AreLeast ii registers (take place lives) numbers
  pub none : (number : ℕ) → ¬ IsLawfulAllotment ii registers (take place lives ++ life ∷ []) (numbers ++ number ∷ [])

-- the same of the value at a place, where these numbers begin with the least ones of those before it
pub record HasNoneAt (ii registers : ℕ) (lives : List Lifetime) (numbers : List ℕ) (place : ℕ) : Type 0 where
  pub life : Lifetime
  pub is_life : slice_get lives place ≡ Some life
  pub least_before : AreLeast ii registers (take place lives) (take place numbers)
  pub none : (number : ℕ) → ¬ IsLawfulAllotment ii registers (take place lives ++ life ∷ []) (take place numbers ++ number ∷ [])
