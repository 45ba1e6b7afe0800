-- What the texts of a machine and of loops give.
use Rattle.std.specs.Prelude.{◌≡◌, ℕ, List, Vec}
use Rattle.std.specs.declared.alloc.Global.{Global}
use Rattle.std.specs.List.{All, AllZip}
use Rattle.machine_data.specs.Machines.{MachineData}
use Rattle.loop_data.specs.Loops.{LoopData}
use Rattle.loop_schedules.specs.Problems.{ProblemData, IsProblemOf}
use Rattle.candidates.specs.Choices.{IsChoice}
use Rattle.loop_listings.specs.Listings.{ListingData, listing_of}
use Rattle.loop_listings.specs.declared.choices.Choice.{Choice}
use Rattle.candidates.specs.Promises.{Lists}
pub use Rattle.file_faults.specs.Answers.{AnswersFile, AnswersIn, AnswersOn}

-- each loop's problem on the machine
abbrev pub ArePrepared : MachineData → ℕ → ℕ → List LoopData → List ProblemData → Type 0
ArePrepared machine ratio ceiling loops problems = AllZip (λ loop problem. IsProblemOf machine loop ratio ceiling problem) loops problems

-- each problem's ceiling is this one
abbrev pub HaveCeiling : ℕ → List ProblemData → Type 0
HaveCeiling ceiling problems = All (λ (p : ProblemData). p.ceiling ≡ ceiling) problems

-- the listing of one thread for these problems
pub record ListsProblems (ceiling : ℕ) (problems : List ProblemData) (listing : ListingData) : Type 0 where
  pub choices : List Choice
  pub each_choice : AllZip IsChoice problems choices
  pub is_listing : listing ≡ listing_of ceiling problems choices

-- each loop prepared
abbrev pub Prepares : ℕ → ℕ → MachineData → List LoopData → Vec ProblemData Global → Type 0
Prepares ratio ceiling machine loops prepared = ArePrepared machine ratio ceiling loops prepared.items

-- each loop prepared, and the listing of one thread
abbrev pub PreparesAndLists : ℕ → ℕ → MachineData → List LoopData → Vec ProblemData Global × ListingData → Type 0
PreparesAndLists ratio ceiling machine loops both = ArePrepared machine ratio ceiling loops both.0.items × ListsProblems ceiling both.0.items both.1

-- the listing of one thread
abbrev pub ListsFile : ℕ → ℕ → MachineData → List LoopData → ListingData → Type 0
ListsFile ratio ceiling machine loops listing = Lists machine loops ratio ceiling listing
