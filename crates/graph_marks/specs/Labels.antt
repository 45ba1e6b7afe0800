-- What came out, in the label of a graph for Graphviz, and how its operations look.
use Rattle.std.specs.Prelude.{ℕ, codes, List, ◌++◌}
use Rattle.writing.specs.Words.{told}

-- ` ii I stages S`
abbrev pub met_label : ℕ → ℕ → List ℕ
met_label ii stages = told (codes " ii ") ii ++ told (codes " stages ") stages

-- ` failed to T: CAUSE`
abbrev pub failed_label : ℕ → List ℕ → List ℕ
failed_label last cause = told (codes " failed to ") last ++ (codes ": " ++ cause)

-- the end of the label, and the line by which operations are filled boxes, whose colors are numbers of nine pale ones
abbrev pub nodes_filled : List ℕ
nodes_filled = codes "\"\n  node [shape=box,style=filled,colorscheme=pastel19]\n"

-- .. and that by which they are boxes
abbrev pub nodes_plain : List ℕ
nodes_plain = codes "\"\n  node [shape=box]\n"
