-- What is told of the loops of a text in parts, one after another.
use Rattle.std.specs.Prelude.{◌≡◌, ℕ, ◌≤◌, List, length, Result, Ok}
use Rattle.std.specs.Borrow.{Bor}
use Rattle.std.specs.Fn.{FnReturns, Shared}
use Rattle.std.specs.List.{AllZip, flat_map}
use Rattle.std.specs.declared.alloc.AllocError.{AllocError}
use Rattle.machine.specs.Machines.{MachineData}
use Rattle.loop_data.specs.Loops.{LoopData}
use Rattle.loop_schedules.specs.Problems.{ProblemData}
use Rattle.candidates.specs.Choices.{IsChoice}
use Rattle.loop_listings.specs.Listings.{ListingData, listing_of}
use Rattle.loop_listings.specs.declared.choices.Choice.{Choice}
use Rattle.machine_data.specs.declared.limits.TheConstants.{MAX_LOOPS}
use Rattle.candidates.specs.Files.{ArePrepared, HaveCeiling, ListsProblems, PreparesAndLists}
use Rattle.workers.specs.declared.pieces.Told.{Told}
use Rattle.workers.specs.declared.pieces.Told.TheVariants.{Apart, Whole}

-- what is called with prepared loops and the listing of these loops
abbrev pub Teller : Type 0 → Type 0 → Type 1
Teller T F = Shared F (Bor (List ProblemData) × (Bor ListingData × Unit {0})) (Result T AllocError)

-- it may be called with any loops that have this ceiling, and their listing of one thread
abbrev pub MayTell : {T F : Type 0} → Teller T F → F → ℕ → Type 0
MayTell g tell ceiling = (problems : Bor (List ProblemData)) (listing : Bor ListingData) → HaveCeiling ceiling problems.now → ListsProblems ceiling problems.now listing.now
    → g.pre tell (problems, (listing, tt))

-- loops, each prepared, with the choice of one thread for each
abbrev pub Group : Type 0
Group = List ProblemData × List Choice

abbrev pub problems_of : List Group → List ProblemData
problems_of groups = flat_map (λ (x : Group). x.0) groups

abbrev pub choices_of : List Group → List Choice
choices_of groups = flat_map (λ (x : Group). x.1) groups

-- a call for prepared loops and their listing may give the part
pub record MayGive {T F : Type 0} (g : Teller T F) (tell : F) (problems : List ProblemData) (listing : ListingData) (part : T) : Type 0 where
  pub prepared : Bor (List ProblemData)
  pub listed : Bor ListingData
  pub shows : (prepared.now ≡ problems) × (listed.now ≡ listing)
  pub says : FnReturns g tell (prepared, (listed, tt)) (Ok part)

-- a part is what a call gave for a group and its listing
pub record IsPart {T F : Type 0} (g : Teller T F) (tell : F) (ceiling : ℕ) (group : Group) (part : T) : Type 0 where
  pub chosen : AllZip IsChoice group.0 group.1
  pub told : MayGive g tell group.0 (listing_of ceiling group.0 group.1) part

-- loops are prepared in groups, and the parts are those of the groups, in their order
pub record AreToldApart {T F : Type 0} (g : Teller T F) (tell : F) (machine : MachineData) (ratio ceiling : ℕ) (loops : List LoopData) (parts : List T) : Type 0 where
  pub few : length loops ≤ MAX_LOOPS
  pub groups : List Group
  pub prepared : ArePrepared machine ratio ceiling loops (problems_of groups)
  pub told : AllZip (IsPart g tell ceiling) groups parts

-- what is told of loops in parts, or else these loops, each prepared, and the listing of one thread
abbrev pub IsTold : {T F : Type 0} → Teller T F → F → ℕ → ℕ → MachineData → List LoopData → Told T → Type 0
IsTold g tell ratio ceiling machine loops (Apart parts) = AreToldApart g tell machine ratio ceiling loops parts.items
IsTold g tell ratio ceiling machine loops (Whole prepared listing) = PreparesAndLists ratio ceiling machine loops (prepared, listing)
