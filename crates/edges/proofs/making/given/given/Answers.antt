use Rattle.std.proofs.Common.{refl, sym, subst}
use Rattle.edges.specs.Graphs.{AreEdges, IsGraphWith}
use Rattle.edges.proofs.GivenEdges.{graph_given}
use Rattle.edges.proofs.making.given.given.Goals as goal

pub new-requires : goal.new-requires
new-requires c =
    graph_given c.args.list.now c.in_ok-ordered.ordered.items c.args.cycles.items
    (subst (λ l. AreEdges c.args.list.now l) c.as_slice.ensures.value (c.if-not-are_edges.ensures.0 refl)) c.in_ok-ordered.ensures.ascending c.in_ok-ordered.ensures.no_more

pub returns : goal.returns
returns c =
    let is_graph = graph_given c.args.list.now c.in_ok-ordered.ordered.items c.args.cycles.items
    (subst (λ l. AreEdges c.args.list.now l) c.as_slice.ensures.value (c.if-not-are_edges.ensures.0 refl)) c.in_ok-ordered.ensures.ascending c.in_ok-ordered.ensures.no_more in
    record {
      exact = subst (IsGraphWith c.args.list.now c.args.cycles.items) (sym c.in_ok-new.ensures)
          (record { same_latencies = refl; is_graph = is_graph; kept = c.in_ok-ordered.ensures.kept; no_more = c.in_ok-ordered.ensures.no_more });
    }
