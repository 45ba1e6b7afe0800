-- Where an operation stands in a schedule, in a graph for Graphviz.
use Rattle.std.specs.Prelude.{ℕ, ◌+◌, ◌/◌, ◌%◌, codes, List, ◌++◌}
use Rattle.writing.specs.Words.{told}

-- the color of an operation that is issued at a time: that of its stage, which the stage nine after it has again
abbrev pub color_of : ℕ → ℕ → ℕ
color_of ii time = (time / ii) % 9 + 1

-- `\ntime T row W stage G`: a backslash and an n, by which Graphviz begins a line, the issue time, in cycles, the cycle of the interval
-- that this is, and how many intervals are before that one
abbrev pub spot_text : ℕ → ℕ → List ℕ
spot_text ii time = (told (codes "\\ntime ") time ++ told (codes " row ") (time % ii)) ++ told (codes " stage ") (time / ii)

-- that, and `",fillcolor=F]`, with a line feed
abbrev pub place_text : ℕ → ℕ → List ℕ
place_text ii time = (spot_text ii time ++ told (codes "\",fillcolor=") (color_of ii time)) ++ codes "]\n"
