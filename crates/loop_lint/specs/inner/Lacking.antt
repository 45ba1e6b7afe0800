-- What one line adds to the statements without a table.
use Rattle.std.specs.Prelude.{◌≡◌, ℕ, ◌+◌, ◌++◌, Bool, List, ◌∷◌}
use Rattle.machine_data.specs.Machines.{MachineData}
use Rattle.loop_lint.specs.Lacks.{lacks_from}
use Rattle.loop_lint.specs.Lints.{TextLine, line_read}
use Rattle.loop_lint.specs.declared.lacks.NoTable.{NoTable}

-- after this line the rest of a text goes on
abbrev pub IsPassed : MachineData → ℕ → Bool → List ℕ → List NoTable → Bool → List NoTable → Type 0
IsPassed machine number inside line old after new =
    (lines : List TextLine) → old ++ lacks_from machine number inside (line_read line ∷ lines) ≡ new ++ lacks_from machine (number + 1) after lines
