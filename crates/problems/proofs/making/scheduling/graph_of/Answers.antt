use Rattle.std.proofs.Common.{◌≡◌, sym, subst, ◌∙◌}
use Rattle.edges.specs.Graphs.{AreEdges}
use Rattle.problems.specs.Drafts.{edges_of, latencies_of}
use Rattle.problems.proofs.made.Edges.{are-edges}
use Rattle.problems.proofs.making.scheduling.graph_of.Goals as goal

pub unreachable-requires : goal.unreachable-requires
unreachable-requires c =
    let edges : c.as_slice.result.now ≡ edges_of c.args.draft.now = c.as_slice.ensures.value ∙ c.in_ok-edges.ensures in
    let cycles : c.in_ok-cycles.cycles.items ≡ latencies_of c.args.draft.now = c.in_ok-cycles.ensures in
    let are : AreEdges c.as_slice.result.now c.in_ok-cycles.cycles.items
    = subst (λ es. AreEdges es c.in_ok-cycles.cycles.items) (sym edges) (subst (AreEdges (edges_of c.args.draft.now)) (sym cycles) (are-edges c.args.draft.now c.requires)) in
    (rw c.in-None.is at c.in_ok-graph.ensures.exact) are
