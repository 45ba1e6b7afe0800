-- Numbers of values, written file by file.
use Rattle.std.specs.Prelude.{◌≡◌, ℕ, ◌<◌, Bool, true, false, List, length, Some, slice_get, slice_index}
use Rattle.problems.specs.declared.draft.File.{File}
use Rattle.problems.specs.declared.draft.File.TheVariants.{Rotating, Unallotted}
use Rattle.registers.specs.declared.lifetime.Lifetime.{Lifetime}
use Rattle.registers.specs.Allotments.{AreLeast}
use Rattle.registers.specs.Numberless.{HasNoneAt}
use Rattle.solutions.specs.Files.{in_file, place_in}

-- the numbers of the values of a file of this kind are the least ones
abbrev pub IsFilled : ℕ → List ℕ → List Lifetime → List ℕ → ℕ → File → Type 0
IsFilled ii files lives numbers file (Rotating registers) = AreLeast ii registers (in_file files file lives) (in_file files file numbers)
IsFilled ii files lives numbers file Unallotted = Unit {0}

-- this value of the file has none
pub record IsLeftOut (ii : ℕ) (files : List ℕ) (lives : List Lifetime) (file value registers : ℕ) : Type 0 where
  pub there : value < length files
  pub is_file : slice_index files value ≡ file
  pub numbers : List ℕ
  pub has_none : HasNoneAt ii registers (in_file files file lives) numbers (place_in files file value)

abbrev pub Lacks : ℕ → List ℕ → List Lifetime → ℕ → ℕ → File → Type 0
Lacks ii files lives file value (Rotating registers) = IsLeftOut ii files lives file value registers
Lacks ii files lives file value Unallotted = ⊥

-- the first of the files that has a value without a number
pub record LacksFirst (ii : ℕ) (kinds : List File) (files : List ℕ) (lives : List Lifetime) (file value : ℕ) : Type 0 where
  pub kind : File
  pub is_kind : slice_get kinds file ≡ Some kind
  pub lacks : Lacks ii files lives file value kind
  pub before : (sooner : ℕ) (other : File) → sooner < file → slice_get kinds sooner ≡ Some other
      → (numbers : List ℕ) × IsFilled ii files lives numbers sooner other

-- the numbers of all files are the least ones, and 0 in an unallotted one
pub record AreFilled (ii : ℕ) (kinds : List File) (files : List ℕ) (lives : List Lifetime) (numbers : List ℕ) : Type 0 where
  pub filled : (file : ℕ) (kind : File) → slice_get kinds file ≡ Some kind → IsFilled ii files lives numbers file kind
  pub zero : (value : ℕ) → slice_get kinds (slice_index files value) ≡ Some Unallotted → slice_index numbers value ≡ 0

-- the same, where it is not told which value has none

abbrev pub IsFound : ℕ → List ℕ → List Lifetime → List ℕ → ℕ → File → Bool → Type 0
IsFound ii files lives numbers file kind true = IsFilled ii files lives numbers file kind
IsFound ii files lives numbers file kind false = (value : ℕ) × Lacks ii files lives file value kind

abbrev pub AreFound : ℕ → List File → List ℕ → List Lifetime → List ℕ → Bool → Type 0
AreFound ii kinds files lives numbers true = AreFilled ii kinds files lives numbers
AreFound ii kinds files lives numbers false = (file : ℕ) × (value : ℕ) × LacksFirst ii kinds files lives file value
