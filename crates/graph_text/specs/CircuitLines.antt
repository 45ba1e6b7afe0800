-- The line of a circuit.
use Rattle.std.specs.Prelude.{ℕ, ℤ, codes, List, [], ◌∷◌, ◌++◌}
use Rattle.edges.specs.Edges.{EdgeData}
use Rattle.walks.specs.Walks.{delay_of, distance_of}
use Rattle.writing.specs.Words.{told}
use Rattle.graph_text.specs.Edges.{sums_told}

-- `circuit delay D distance N needs C`, with a line feed
abbrev pub sums_line : ℤ → ℕ → ℕ → List ℕ
sums_line delay distance bound = ((codes "circuit" ++ sums_told delay distance) ++ told (codes " needs ") bound) ++ codes "\n"

-- the line of the sums of a circuit and of the bound, or `circuit none`, with a line feed
abbrev pub circuit_line : List EdgeData → ℕ → List ℕ
circuit_line [] bound = codes "circuit none\n"
circuit_line (e ∷ circuit) bound = sums_line (delay_of (e ∷ circuit)) (distance_of (e ∷ circuit)) bound
