-- What workers make of the pieces of a text.
use Rattle.std.specs.Prelude.{◌≡◌, ℕ, List, Option, Some, None, Ok, map}
use Rattle.std.specs.List.{flat_map}
use Rattle.machine.specs.Machines.{MachineData}
use Rattle.loop_data.specs.Loops.{LoopData}
use Rattle.loop_reader.specs.Meaning.{loops_in}
use Rattle.graph.specs.Units.{first_lacking}
use Rattle.loop_schedules.specs.Problems.{ProblemData}
use Rattle.loop_listings.specs.declared.choices.Choice.{Choice}
use Rattle.candidates.specs.Files.{ArePrepared}
use Rattle.workers.specs.Told.{AreToldApart, IsPart, Teller}
use Rattle.workers.specs.declared.pieces.Piece.{Piece}

abbrev pub names_in : List ProblemData → List (List ℕ)
names_in problems = map (λ (p : ProblemData). p.loop.name) problems

-- the names of prepared loops, and what a call gave for these and their listing
pub record IsPieceOf {T F : Type 0} (g : Teller T F) (tell : F) (ceiling : ℕ) (problems : List ProblemData) (piece : Piece T) : Type 0 where
  pub choices : List Choice
  pub names : piece.names.items ≡ names_in problems
  pub part : IsPart g tell ceiling (problems, choices) piece.part

-- .. of the loops of a text
pub record Tells {T F : Type 0} (g : Teller T F) (tell : F) (machine : MachineData) (ratio ceiling : ℕ) (text : List ℕ) (piece : Piece T) : Type 0 where
  pub loops : List LoopData
  pub means : loops_in text ≡ Ok loops
  pub lacking : first_lacking machine loops ≡ None
  pub problems : List ProblemData
  pub prepared : ArePrepared machine ratio ceiling loops problems
  pub is : IsPieceOf g tell ceiling problems piece

-- .. where something was made of the text
abbrev pub IsMadeOf : {T F : Type 0} → Teller T F → F → MachineData → ℕ → ℕ → List ℕ → Option (Piece T) → Type 0
IsMadeOf g tell machine ratio ceiling text None = Unit {0}
IsMadeOf g tell machine ratio ceiling text (Some piece) = Tells g tell machine ratio ceiling text piece

-- something was made of every piece, and these are all names and all parts, one after another
pub record AreTogether {T : Type 0} (made : List (Option (Piece T))) (names : List (List ℕ)) (parts : List T) : Type 0 where
  pub tolds : List (Piece T)
  pub all : made ≡ map (λ (t : Piece T). Some t) tolds
  pub named : names ≡ flat_map (λ (t : Piece T). t.names.items) tolds
  pub told : parts ≡ map (λ (t : Piece T). t.part) tolds

-- the text means loops that are told in parts
pub record ToldOfText {T F : Type 0} (g : Teller T F) (tell : F) (machine : MachineData) (ratio ceiling : ℕ) (text : List ℕ) (parts : List T) : Type 0 where
  pub loops : List LoopData
  pub means : loops_in text ≡ Ok loops
  pub lacking : first_lacking machine loops ≡ None
  pub apart : AreToldApart g tell machine ratio ceiling loops parts
