-- What is read of a text: machines, and problems with the numbers of their machines.
use Rattle.std.specs.Prelude.{ℕ, List, map}
use Rattle.smallvec.specs.SmallVec.{SmallVec}
use Rattle.problem_lines.specs.Forms.{HoldForm}
use Rattle.problem_lines.specs.declared.number.Number.{Number}
use Rattle.problem_lines.specs.declared.number.Storage.{Storage}
use Rattle.problem_lines.specs.declared.number.Storage.TheVariants as storage
use Rattle.problems.specs.declared.draft.File.{File}
use Rattle.problems.specs.declared.draft.File.TheVariants as file
use Rattle.problems.specs.declared.draft.Hold.{Hold}
use Rattle.problems.specs.declared.draft.Kind.{Kind}
use Rattle.problems.specs.declared.draft.Value.{Value}
use Rattle.problems.specs.declared.draft.Order.{Order}
use Rattle.registers.specs.declared.value.Read.{Read}
use Rattle.problem_tables.specs.Faults.{number_or_0}
use Rattle.problem_tables.specs.Names.{index_of}

pub record KindData : Type 0 where
  pub latency : ℕ
  pub alternatives : List (List Hold)

pub record MachineData : Type 0 where
  pub name : List ℕ
  pub units : List (List ℕ)
  pub files : List File
  pub file_names : List (List ℕ)
  pub kinds : List KindData
  pub kind_names : List (List ℕ)

-- with the number of its machine, from 0
pub record ProblemData : Type 0 where
  pub name : List ℕ
  pub machine : ℕ
  pub operations : List ℕ
  pub operation_names : List (List ℕ)
  pub values : List Value
  pub value_names : List (List ℕ)
  pub reads : List Read
  pub orders : List Order

pub record FileData : Type 0 where
  pub machines : List MachineData
  pub problems : List ProblemData

abbrev pub file_of : Storage → File
file_of (storage.Rotating registers) = file.Rotating registers.value
file_of storage.Unallotted = file.Unallotted

-- a hold by the names of the units
abbrev pub hold_in : List (List ℕ) → HoldForm → Hold
hold_in units hold = record { unit = index_of units hold.unit.bytes; offset = number_or_0 hold.offset }

abbrev pub kind_of : List (List ℕ) → Number → List (List HoldForm) → KindData
kind_of units latency alternatives = record { latency = latency.value; alternatives = map (map (hold_in units)) alternatives }

abbrev pub kind_seen : Kind → KindData
kind_seen kind = record { latency = kind.latency; alternatives = map (λ (rows : SmallVec Hold). rows.items) kind.alternatives.items }
