-- The least of some intervals that gives something, or why the last of them gives nothing.
use Rattle.std.specs.Prelude.{ℕ, ◌+◌, ◌<◌, ◌≤◌}

-- nothing is given from the first interval on and before this one
abbrev pub NoneGiven : {A : Type 0} → (ℕ → A → Type 0) → ℕ → ℕ → Type 0
NoneGiven {A} gives first end = (ii : ℕ) (given : A) → first ≤ ii → ii < end → gives ii given → ⊥

-- the least of the intervals from the first to the last that gives something, with what it gives
pub record IsLeastGiven {A : Type 0} (gives : ℕ → A → Type 0) (first last ii : ℕ) (given : A) : Type 0 where
  pub from_first : first ≤ ii
  pub to_last : ii ≤ last
  pub is_given : gives ii given
  pub least : NoneGiven gives first ii

-- none of them gives anything; the cause is that of the last
pub record IsNoneGiven {A C : Type 0} (gives : ℕ → A → Type 0) (fails_by : ℕ → C → Type 0) (first last : ℕ) (cause : C) : Type 0 where
  pub fails : fails_by last cause
  pub none : NoneGiven gives first (last + 1)
