-- What is known of each interval of each loop: a cell for each, in a row for each loop.
use Rattle.std.specs.Prelude.{◌≡◌, ℕ, zero, suc, ◌+◌, ◌≤◌, ◌++◌, Bool, true, false, List, [], ◌∷◌, length, Option, Some, None, if◌then◌else◌, replicate}
use Rattle.loop_schedules.specs.Problems.{ProblemData, mii_of}
use Rattle.candidates.specs.Outcomes.{GivesKernel, FailsBy}
use Rattle.candidates.specs.Choices.{IsChoice}
use Rattle.reports.specs.Gathered.{tried}
use Rattle.loop_listings.specs.declared.choices.Choice.{Choice}
use Rattle.collecting.specs.declared.cells.Settled.{Settled}
use Rattle.collecting.specs.declared.cells.Settled.TheVariants.{Won, Failed}
use Rattle.collecting.specs.declared.cells.LoopCells.{LoopCells}
use Rattle.reports.specs.declared.entry.Found.{Found}
use Rattle.reports.specs.declared.entry.Found.TheVariants as found

abbrev pub is_full : Option Settled → Bool
is_full None = false
is_full (Some s) = true

-- what a cell has is so
abbrev pub IsTrueCell : ProblemData → ℕ → Option Settled → Type 0
IsTrueCell p ii None = Unit {0}
IsTrueCell p ii (Some (Won kernel)) = GivesKernel p ii kernel.value
IsTrueCell p ii (Some (Failed cause)) = FailsBy p ii cause

-- what is kept of an entry
abbrev pub kept_of : Found → Option Settled
kept_of (found.Won kernel) = Some (Won kernel)
kept_of (found.Failed cause) = Some (Failed cause)
kept_of found.Beaten = None
kept_of found.Unsettled = None

abbrev pub known_at : List (Option Settled) → ℕ → Option Settled
known_at [] above = None
known_at (c ∷ cs) zero = c
known_at (c ∷ cs) (suc above) = known_at cs above

abbrev pub known_in : List LoopCells → ℕ → ℕ → Option Settled
known_in [] l above = None
known_in (r ∷ rs) zero above = known_at r.cells.items above
known_in (r ∷ rs) (suc l) above = known_in rs l above

-- a cell for each interval of the loop, each of them true
pub record AreCellsOf (p : ProblemData) (row : LoopCells) : Type 0 where
  pub long : length row.cells.items ≡ p.ceiling + 1
  pub truth : (above : ℕ) → IsTrueCell p (mii_of p + above) (known_at row.cells.items above)

-- how many cells, from `above` on, are empty; the last number is how many are looked at
abbrev pub empty_from : List (Option Settled) → ℕ → ℕ → ℕ
empty_from cells above zero = 0
empty_from cells above (suc n) = (if is_full (known_at cells above) then 0 else 1) + empty_from cells (above + 1) n

-- a choice for each of the first loops, as many as there are choices, and how many of their cells were empty up to it
abbrev pub IsFirst : List ProblemData → List LoopCells → List Choice → ℕ → Type 0
IsFirst ps rs [] retried = retried ≡ 0
IsFirst [] rs (c ∷ cs) retried = ⊥
IsFirst (p ∷ ps) [] (c ∷ cs) retried = ⊥
IsFirst (p ∷ ps) (r ∷ rs) (c ∷ cs) retried = IsChoice p c × ((rest : ℕ) × (retried ≡ empty_from r.cells.items 0 (tried p c) + rest) × IsFirst ps rs cs rest)

-- the choices of loops, and how many intervals were tried for them
pub record ChosenData : Type 0 where
  pub choices : List Choice
  pub retried : ℕ

-- a loop's choice is added
pub record AddsChoice (p : ProblemData) (row : LoopCells) (before after : ChosenData) : Type 0 where
  pub choice : Choice
  pub is_choice : IsChoice p choice
  pub choices : after.choices ≡ before.choices ++ choice ∷ []
  pub retried : after.retried ≡ before.retried + empty_from row.cells.items 0 (tried p choice)
  pub few : after.retried ≤ before.retried + 256

-- empty rows for the first loops, as many as there are rows
abbrev pub AreEmptyCells : List ProblemData → List LoopCells → Type 0
AreEmptyCells ps [] = Unit {0}
AreEmptyCells [] (r ∷ rs) = ⊥
AreEmptyCells (p ∷ ps) (r ∷ rs) = (r.cells.items ≡ replicate (p.ceiling + 1) None) × AreEmptyCells ps rs

-- an empty row more
pub record AddsEmpty (p : ProblemData) (before after : List LoopCells) : Type 0 where
  pub row : LoopCells
  pub empty : row.cells.items ≡ replicate (p.ceiling + 1) None
  pub rows : after ≡ before ++ row ∷ []
