-- What the parts of a problem are told by as JSON: counts, names and registers, and lists of them.
use Rattle.std.specs.Prelude.{ℕ, codes, List, map}
use Rattle.serde_json.specs.Data.{Data, number, string, array, object, unsigned, member, no_members}
use Rattle.serde_json.specs.View.{items_of}
use Rattle.problems.specs.declared.draft.Draft.{Draft}
use Rattle.solution_text.specs.declared.named.Register.{Register}
use Rattle.solution_text.specs.Names.{file_name, op_name, unit_name}

-- the members of each object stand in the order of their keys

abbrev pub count_value : ℕ → Data
count_value n = number (unsigned n)

-- an array with an element for each of these, in order
abbrev pub array_of : {A : Type 0} → (A → Data) → List A → Data
array_of value list = array (items_of (map value list))

-- operations and units by their names
abbrev pub op_names : Draft → List ℕ → Data
op_names draft ops = array_of (λ op. string (op_name draft op)) ops

abbrev pub unit_names : Draft → List ℕ → Data
unit_names draft units = array_of (λ unit. string (unit_name draft unit)) units

-- a register, as the operations of a solution name it
abbrev pub register_object : Draft → Register → Data
register_object draft register =
    object (member (codes "file") (string (file_name draft register.file))
    (member (codes "number") (count_value register.number) no_members))
