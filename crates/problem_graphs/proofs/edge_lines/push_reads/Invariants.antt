use Rattle.std.proofs.Common.{◌≡◌, ◌++◌, take}
use Rattle.std.specs.List.{flat_map}
use Rattle.problem_graphs.specs.Edges.{read_line}
use Rattle.problem_graphs.proofs.edge_lines.push_reads.Given as goal

abbrev pub invariant-loop-read : goal.invariant-loop-read
invariant-loop-read l = l.text.items ≡ l.initial.text.items ++ flat_map (read_line l.draft) (take l.read-index l.draft.reads.items)
