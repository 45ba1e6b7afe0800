-- Numbers of values, judged file by file.
use Rattle.std.specs.Prelude.{◌≡◌, ℕ, ◌<◌, List, length, Some, slice_get, slice_index}
use Rattle.problems.specs.declared.draft.Draft.{Draft}
use Rattle.problems.specs.declared.draft.File.{File}
use Rattle.problems.specs.declared.draft.File.TheVariants.{Rotating, Unallotted}
use Rattle.registers.specs.declared.lifetime.Lifetime.{Lifetime}
use Rattle.registers.specs.Allotments.{IsLawfulAllotment}
use Rattle.registers.specs.Meetings.{IsFirstMeeting}
use Rattle.solutions.specs.declared.judging.broken.Broken.{Broken}
use Rattle.solutions.specs.declared.judging.broken.Broken.TheVariants.{Interval, Numbers, Number, Schedule, Registers}
use Rattle.solutions.specs.Breaks.{BreaksNumber, BreaksNumbers, IsInterval}
use Rattle.solutions.specs.Files.{in_file, place_in}

-- the interval and the numbers

abbrev pub IsWrong : Draft → ℕ → List ℕ → Broken → Type 0
IsWrong draft ii numbers Interval = ¬ IsInterval ii
IsWrong draft ii numbers Numbers = BreaksNumbers draft ii numbers
IsWrong draft ii numbers (Number value) = BreaksNumber draft ii numbers value
IsWrong draft ii numbers (Schedule breach) = ⊥
IsWrong draft ii numbers (Registers file earlier later register cycle) = ⊥

-- registers

-- no two values of a file of this kind meet
abbrev pub IsApart : ℕ → List ℕ → List Lifetime → List ℕ → ℕ → File → Type 0
IsApart ii files lives numbers file (Rotating registers) = IsLawfulAllotment ii registers (in_file files file lives) (in_file files file numbers)
IsApart ii files lives numbers file Unallotted = Unit {0}

abbrev pub AreApart : ℕ → List File → List ℕ → List Lifetime → List ℕ → Type 0
AreApart ii kinds files lives numbers = (file : ℕ) (kind : File) → slice_get kinds file ≡ Some kind → IsApart ii files lives numbers file kind

-- these are the first two values of the file that meet
pub record IsMeeting (ii : ℕ) (files : List ℕ) (lives : List Lifetime) (numbers : List ℕ) (file registers earlier later register cycle : ℕ) : Type 0 where
  pub earlier_there : earlier < length files
  pub earlier_file : slice_index files earlier ≡ file
  pub later_there : later < length files
  pub later_file : slice_index files later ≡ file
  pub is_first : IsFirstMeeting ii registers (in_file files file lives) (in_file files file numbers)
      (record { earlier = place_in files file earlier; later = place_in files file later; register = register; cycle = cycle })

pub record IsMeetingOf (ii : ℕ) (files : List ℕ) (lives : List Lifetime) (numbers : List ℕ) (at file registers earlier later register cycle : ℕ) : Type 0 where
  pub same_file : file ≡ at
  pub is_meeting : IsMeeting ii files lives numbers at registers earlier later register cycle

abbrev pub MeetsIn : ℕ → List ℕ → List Lifetime → List ℕ → ℕ → ℕ → Broken → Type 0
MeetsIn ii files lives numbers at registers Interval = ⊥
MeetsIn ii files lives numbers at registers Numbers = ⊥
MeetsIn ii files lives numbers at registers (Number value) = ⊥
MeetsIn ii files lives numbers at registers (Schedule breach) = ⊥
MeetsIn ii files lives numbers at registers (Registers file earlier later register cycle) = IsMeetingOf ii files lives numbers at file registers earlier later register cycle

abbrev pub Meets : ℕ → List ℕ → List Lifetime → List ℕ → ℕ → File → Broken → Type 0
Meets ii files lives numbers file (Rotating registers) broken = MeetsIn ii files lives numbers file registers broken
Meets ii files lives numbers file Unallotted broken = ⊥

-- and in the files before it none do
pub record MeetsFirst (ii : ℕ) (kinds : List File) (files : List ℕ) (lives : List Lifetime) (numbers : List ℕ) (broken : Broken) : Type 0 where
  pub file : ℕ
  pub kind : File
  pub is_kind : slice_get kinds file ≡ Some kind
  pub meets : Meets ii files lives numbers file kind broken
  pub before : (sooner : ℕ) (other : File) → sooner < file → slice_get kinds sooner ≡ Some other → IsApart ii files lives numbers sooner other
