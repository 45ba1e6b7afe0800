-- The parts of what is printed of a fault.
use Rattle.std.specs.Prelude.{ℕ, List, ◌++◌, Option, Some, None}
use Rattle.reader_faults.specs.MachineFaults.{key_text}

-- what is printed before a key or name, and that, if there is one
abbrev pub parts_text : List ℕ → Option (List ℕ) → List ℕ
parts_text what None = what
parts_text what (Some key) = what ++ key_text key
