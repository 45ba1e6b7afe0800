use Rattle.std.proofs.Common.{sym}
use Rattle.edges.specs.declared.layout.starts.End.TheVariants.{Source}
use Rattle.edges.proofs.Grouping.{same_edges}
use Rattle.edges.proofs.Order.{ascending, kept, no_more}
use Rattle.edges.proofs.making.order.in_order.Goals as goal

pub returns-clause-ascending : goal.returns-clause-ascending
returns-clause-ascending c = ascending c.sort.new.self.items c.dedup.new.self.items c.in_ok-sort.ensures.sorted c.dedup.ensures.filtered

pub returns-clause-kept : goal.returns-clause-kept
returns-clause-kept c = λ e there. kept c.in_ok-ordered.ordered.items c.sort.new.self.items c.dedup.new.self.items c.in_ok-sort.ensures.permutation c.dedup.ensures.filtered e
    (same_edges Source c.args.list.now c.in_ok-ordered.ordered.items c.in_ok-ordered.ensures.same e there)

pub returns-clause-no_more : goal.returns-clause-no_more
returns-clause-no_more c = λ e there. same_edges Source c.in_ok-ordered.ordered.items c.args.list.now (λ k. sym (c.in_ok-ordered.ensures.same k)) e
    (no_more c.in_ok-ordered.ordered.items c.sort.new.self.items c.dedup.new.self.items c.in_ok-sort.ensures.permutation c.dedup.ensures.filtered e there)
