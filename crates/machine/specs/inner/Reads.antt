-- What a reader of a part of a machine text answers, beside the faults of that part.
use Rattle.std.specs.Prelude.{ℕ, ◌≡◌, ◌≢◌, List, [], ◌∷◌, length, Option, Some, None, Result, MatchResult}
use Rattle.toml.specs.Data.{Data, array, table}
use Rattle.reader_faults.specs.declared.machine.MachineFault.{MachineFault}
use Rattle.reader_faults.specs.declared.machine.MachineFault.TheVariants.{MissingKey, WrongType, Limit, Memory}
use Rattle.machine.specs.MachineText.{Faults, unless, within, data_of}

abbrev pub first_fault : Faults → Option MachineFault
first_fault [] = None
first_fault (fault ∷ faults) = Some fault

-- the part has no fault and its value is right, or the error is its first fault, unless memory ran out
abbrev pub ReadsPart : {A : Type 0} → Faults → (A → Type 0) → Result A MachineFault → Type 0
ReadsPart faults IsRight result = MatchResult result (λ value. (faults ≡ []) × IsRight value) (λ e. e ≢ Memory → first_fault faults ≡ Some e)

-- a list of at least one and at most so many values, at this path
unfoldable pub faults_of_list : List ℕ → List ℕ → ℕ → Option Data → Faults
faults_of_list path limit most None = MissingKey path ∷ []
faults_of_list path limit most (Some (array values)) = unless (within 1 most (length (data_of values))) (Limit limit)
faults_of_list path limit most (Some _) = WrongType path ∷ []

abbrev pub list_in : Option Data → List Data
list_in (Some (array values)) = data_of values
list_in _ = []

-- a table, at this path
unfoldable pub faults_of_table : List ℕ → Option Data → Faults
faults_of_table path None = MissingKey path ∷ []
faults_of_table path (Some (table keys)) = []
faults_of_table path (Some _) = WrongType path ∷ []
