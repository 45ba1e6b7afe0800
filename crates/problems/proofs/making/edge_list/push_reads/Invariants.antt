use Rattle.std.proofs.Common.{◌≡◌, ◌++◌, map, take}
use Rattle.problems.specs.Drafts.{read_edge}
use Rattle.problems.proofs.making.edge_list.push_reads.Given as goal

abbrev pub invariant-loop-read : goal.invariant-loop-read
invariant-loop-read l = l.edges.items ≡ l.initial.edges.items ++ map (read_edge l.draft) (take l.read-index l.draft.reads.items)
