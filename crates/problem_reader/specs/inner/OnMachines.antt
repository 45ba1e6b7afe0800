-- Drafts of problems on a machine, whatever the problem.
use Rattle.std.specs.Prelude.{◌≡◌, length, map}
use Rattle.problems.specs.declared.draft.Draft.{Draft}
use Rattle.problem_tables.specs.Data.{MachineData, kind_seen}

-- what a draft has of its machine is that of this one
pub record IsOnMachine (machine : MachineData) (draft : Draft) : Type 0 where
  pub units : draft.units ≡ length machine.units
  pub files : draft.files.items ≡ machine.files
  pub kinds : map kind_seen draft.kinds.items ≡ machine.kinds
  pub unit_names : draft.names.units.items ≡ machine.units
  pub file_names : draft.names.files.items ≡ machine.file_names
  pub kind_names : draft.names.kinds.items ≡ machine.kind_names
