-- Names, and their numbers by their places among others.
use Rattle.std.specs.Prelude.{ℕ, ◌+◌, ◌-◌, Bool, if◌then◌else◌, List, [], ◌∷◌, length, map}
use Rattle.std.specs.List.{list_any, slice_index_or}
use Rattle.machine_data.specs.Opcodes.{same_word}
use Rattle.loop_lines.specs.Columns.{Placed}

abbrev pub bytes_of : List Placed → List (List ℕ)
bytes_of ws = map (λ (w : Placed). w.bytes) ws

abbrev pub has_name : List (List ℕ) → List ℕ → Bool
has_name names name = list_any (same_word name) names

-- the number of a name among names, from 0; where it is none of them, how many there are
abbrev pub index_of : List (List ℕ) → List ℕ → ℕ
index_of [] name = 0
index_of (first ∷ names) name = if same_word name first then 0 else index_of names name + 1

-- the last of some names
abbrev pub last_name : List (List ℕ) → List ℕ
last_name names = slice_index_or names (length names - 1) []
