-- What is written of a search, by what the search gave.
use Rattle.std.proofs.Common.{ℕ, List}
use Rattle.std.specs.Prelude.{Option, Result, Ok, Err, Vec}
use Rattle.std.specs.Global.{Global}
use Rattle.machine.specs.Opcode.{Opcode}
use Rattle.loop_data.specs.Loops.{LoopData}
use Rattle.loop_schedules.specs.Problems.{ProblemData}
use Rattle.loop_listings.specs.Listings.{ListingData}
use Rattle.file_faults.specs.Answers.{AnswersLoops, AnswersOn}
use Rattle.file_faults.specs.declared.fault.FileFault.{FileFault}
use Rattle.file_faults.specs.declared.fault.FileFault.TheVariants.{Machine, Loops, NoTable, Memory}

abbrev Lacking : Type 0
Lacking = Option (List ℕ × Opcode)

module _ {A : Type 0} (F : List LoopData → A → Type 0) (lacking : List LoopData → Lacking) where
  -- answers for loops, and for a text that means them
  pub of_loops : (xs : List LoopData) (answer : Result A FileFault) → AnswersOn (F xs) (lacking xs) answer → AnswersLoops F lacking (Ok xs) answer
  of_loops xs (Ok x) a = a
  of_loops xs (Err (Machine f)) a = a
  of_loops xs (Err (Loops f)) a = a
  of_loops xs (Err (NoTable n o)) a = a
  of_loops xs (Err Memory) a = tt

  pub on_loops : (xs : List LoopData) (answer : Result A FileFault) → AnswersLoops F lacking (Ok xs) answer → AnswersOn (F xs) (lacking xs) answer
  on_loops xs (Ok x) a = a
  on_loops xs (Err (Machine f)) a = a
  on_loops xs (Err (Loops f)) a = a
  on_loops xs (Err (NoTable n o)) a = a
  on_loops xs (Err Memory) a = tt

abbrev Searched : Type 0
Searched = Result (Vec ProblemData Global × ListingData) FileFault
