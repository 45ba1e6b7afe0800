-- How a line is taken in.
use Rattle.std.specs.Prelude.{◌≡◌, Option, None, Some, Result, Ok, Err}
use Rattle.solution_reader.specs.declared.fault.Refusal.{Refusal}
use Rattle.solution_reader.specs.declared.fault.Refusal.TheVariants.{Fault, Memory}
use Rattle.solution_reader.specs.declared.fault.Told.{Told}
use Rattle.problem_faults.specs.declared.refused_solutions.Wrong.{Wrong}
use Rattle.solution_reader.specs.declared.sofar.Sofar.{Sofar}
use Rattle.solution_reader.specs.declared.spot.Spot.{Spot}
use Rattle.solution_reader.specs.inner.Steps.{SofarData}

-- where faults are told
abbrev pub on_spot : Spot → Wrong → Told
on_spot at what = record { column = at.column; width = at.width; what = what }

-- a line is refused just for its fault, or for lack of memory
abbrev pub Refuses : {A : Type 0} → Result A Refusal → Option Told → Type 0
Refuses (Ok done) fault = fault ≡ None
Refuses (Err (Fault told)) fault = fault ≡ Some told
Refuses (Err Memory) fault = Unit {0}

abbrev pub sofar_seen : Sofar → SofarData
sofar_seen sofar = record { begun = sofar.begun; ops = sofar.ops; values = sofar.values }
