-- What the bounds of a problem are due to, as JSON.
use Rattle.std.specs.Prelude.{codes, List, [], ◌∷◌}
use Rattle.serde_json.specs.Data.{Data, null, number, object, member, no_members}
use Rattle.serde_json.specs.Find.{of_integer}
use Rattle.edges.specs.Edges.{EdgeData}
use Rattle.walks.specs.Walks.{delay_of, distance_of}
use Rattle.problems.specs.declared.draft.Draft.{Draft}
use Rattle.outcome_text.specs.Notes.{stops_of}
use Rattle.solution_json.specs.Parts.{count_value, op_names}

-- a circuit: its operations, in its order, and the sums of its delays and distances; `null` where there is none
abbrev pub circuit_value : Draft → List EdgeData → Data
circuit_value draft [] = null
circuit_value draft (e ∷ circuit) =
    object (member (codes "delay") (number (of_integer (delay_of (e ∷ circuit))))
    (member (codes "distance") (count_value (distance_of (e ∷ circuit)))
    (member (codes "operations") (op_names draft (stops_of (e ∷ circuit))) no_members)))
