-- The dependences of a loop and a circuit of them, as JSON.
use Rattle.std.specs.Prelude.{◌≡◌, ℕ, ℤ, ◌==◌, ◌&&◌, int_le, Bool, codes, List, [], ◌∷◌, length, position, unwrap_or}
use Rattle.serde_json.specs.Data.{Data, null, string, object, member, no_members}
use Rattle.loop_data.specs.Loops.{LoopData}
use Rattle.edges.specs.Edges.{EdgeData}
use Rattle.walks.specs.Walks.{delay_of, distance_of}
use Rattle.graph_text.specs.declared.kind.Kind.{Kind}
use Rattle.graph_text.specs.Kinds.{IsOfKind, kind_word}
use Rattle.explain_json.specs.Parts.{array_of, count_value, integer_value}

-- a dependence of this kind
abbrev pub edge_object : EdgeData → Kind → Data
edge_object e kind =
    object (member (codes "delay") (integer_value e.delay)
    (member (codes "distance") (count_value e.distance)
    (member (codes "from") (count_value e.from)
    (member (codes "kind") (string (kind_word kind))
    (member (codes "to") (count_value e.to) no_members)))))

-- a dependence with its kind
abbrev pub IsEdgeObject : LoopData → List ℕ → EdgeData → Data → Type 0
IsEdgeObject loop latencies e told = (kind : Kind) × IsOfKind loop latencies e kind × (told ≡ edge_object e kind)

abbrev pub same_integer : ℤ → ℤ → Bool
same_integer a b = int_le a b && int_le b a

-- two edges are one
abbrev pub same_edge : EdgeData → EdgeData → Bool
same_edge e other = (other.from == e.from) && ((other.to == e.to) && ((other.distance == e.distance) && same_integer other.delay e.delay))

-- the place of an edge among those of the loop, from 0
abbrev pub place_of : List EdgeData → EdgeData → ℕ
place_of edges e = unwrap_or (position (same_edge e) edges) (length edges)

-- a circuit by the sums of its delays and distances, the places of its edges, and the bound that it needs; `null` where it has no edges
abbrev pub circuit_value : List EdgeData → ℕ → List EdgeData → Data
circuit_value edges bound [] = null
circuit_value edges bound (e ∷ circuit) =
    object (member (codes "delay") (integer_value (delay_of (e ∷ circuit)))
    (member (codes "distance") (count_value (distance_of (e ∷ circuit)))
    (member (codes "edges") (array_of (λ edge. count_value (place_of edges edge)) (e ∷ circuit))
    (member (codes "needs") (count_value bound) no_members))))
