-- Names for the instances of values that no file is allotted to. A value has some number of names, and its iterations take them in turn,
-- as they do where the body of a loop is repeated so often and each repeat has names of its own.
use Rattle.std.specs.Prelude.{◌≡◌, ℕ, ℤ, pos, ◌+ℤ◌, unsigned_abs, Some, slice_get, slice_index}
use Rattle.std.specs.Int.{int_rem_euclid}
use Rattle.problems.specs.declared.draft.File.TheVariants.{Unallotted}
use Rattle.registers.specs.declared.lifetime.Lifetime.{Lifetime}
use Rattle.registers.specs.Lifetimes.{IsLiveIn}
use Rattle.solutions.specs.Solutions.{SolutionData, files_of, lives_of_solution}

-- which of its names a value has in an iteration, any whole number
abbrev pub name_of : ℕ → ℤ → ℕ
name_of names iteration = unsigned_abs (int_rem_euclid iteration (pos names))

-- the instances of two iterations have one name, and live in one cycle
pub record DoClash (ii : ℕ) (life : Lifetime) (names : ℕ) (i j : ℤ) : Type 0 where
  pub same_name : name_of names i ≡ name_of names j
  pub cycle : ℤ
  pub one_lives : IsLiveIn ii life i cycle
  pub other_lives : IsLiveIn ii life j cycle

-- so many names are enough: each instance that lives has one of its own
abbrev pub AreEnough : ℕ → Lifetime → ℕ → Type 0
AreEnough ii life names = (i j : ℤ) → DoClash ii life names i j → i ≡ j

-- so many are too few: each instance clashes with the next one that has its name
abbrev pub AreTooFew : ℕ → Lifetime → ℕ → Type 0
AreTooFew ii life names = (i : ℤ) → DoClash ii life names i (i +ℤ pos names)

-- the value with this number is of an unallotted file, and lives so
pub record LivesUnallotted (s : SolutionData) (value : ℕ) (life : Lifetime) : Type 0 where
  pub is_life : slice_get (lives_of_solution s) value ≡ Some life
  pub unallotted : slice_get s.problem.draft.files.items (slice_index (files_of s.problem.draft) value) ≡ Some Unallotted
