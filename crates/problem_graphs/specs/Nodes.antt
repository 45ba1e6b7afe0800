-- The head of a graph, and the lines of operations, in the language of Graphviz.
use Rattle.std.specs.Prelude.{ℕ, codes, List, ◌++◌}
use Rattle.schedules.specs.Problems.{ProblemData as SchedulingData}
use Rattle.problems.specs.declared.draft.Draft.{Draft}
use Rattle.writing.specs.Words.{told}
use Rattle.problem_graphs.specs.Escapes.{escaped, escaped_in}
use Rattle.problem_graphs.specs.Heads.{bounds_told}
use Rattle.problem_graphs.specs.Names.{kind_of}

-- `digraph "NAME" {`, and the label up to `NAME res R rec C mii M`
abbrev pub title : List ℕ → SchedulingData → List ℕ
title name scheduling = (((codes "digraph \"" ++ escaped name) ++ codes "\" {\n  label=\"") ++ escaped name) ++ bounds_told scheduling

-- `  K [label="NAME KIND`
abbrev pub node_start : Draft → ℕ → List ℕ
node_start draft op =
    (((told (codes "  ") op ++ codes " [label=\"") ++ escaped_in draft.names.operations.items op) ++ codes " ") ++ escaped_in draft.names.kinds.items (kind_of draft op)

-- `  K [label="NAME KIND"]`, with a line feed
abbrev pub node_line : Draft → ℕ → List ℕ
node_line draft op = node_start draft op ++ codes "\"]\n"
