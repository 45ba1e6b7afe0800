use Rattle.std.proofs.Common.{◌≡◌, ℕ, List, ◌++◌, ◌≤◌, None, refl, subst, arith}
use Rattle.walks.specs.Walks.{IsHeight}
use Rattle.lower_bounds.specs.Bounds.{IsMeasured, bounds_line}
use Rattle.graph_text.specs.Edges.{IsEdgesPart, op_line}
use Rattle.lower_bounds.specs.Faults.{lacking_in}
use Rattle.lower_bounds.specs.Texts.{AreTexts, numbers_of}
use Rattle.lower_bounds.specs.declared.measuring.Measured.{Measured}
use Rattle.lower_bounds.proofs.Lacking.{answered, complete}
use Rattle.writing.proofs.Beginnings.{two_pushed}
use Rattle.graph_text.proofs.listing.dependences.push_part.Goals as goal

pub push_ops-requires-clause-fits : goal.push_ops-requires-clause-fits
push_ops-requires-clause-fits c =
    let machine = c.args.machine.now in
    let loop = c.args.innermost.now in
    let m = c.in_ok-measured.measured in
    let is : IsMeasured machine loop m.bounds m.graph
    = (answered (lacking_in machine loop) (λ (x : Measured). IsMeasured machine loop x.bounds x.graph) m c.in_ok-measured.ensures.exact).1 in
    let longer : m.bounds.recurrences ≤ c.mii-interval.result = omega arith in
    c.longer_intervals_fit.ensures m.graph.edges m.bounds.recurrences c.mii-interval.result is.recurrences longer

pub returns : goal.returns
returns c =
    let machine = c.args.machine.now in
    let loop = c.args.innermost.now in
    let m = c.in_ok-measured.measured in
    let answer : (lacking_in machine loop ≡ None) × IsMeasured machine loop m.bounds m.graph
    = answered (lacking_in machine loop) (λ (x : Measured). IsMeasured machine loop x.bounds x.graph) m c.in_ok-measured.ensures.exact in
    let ops = c.in_ok-push_ops.ensures.ok in
    let edges = c.in_ok-push_edges.ensures.ok in
    let old = c.args.text.now.items in
    let head = bounds_line loop m.bounds in
    let part : (text : List ℕ) × IsEdgesPart machine loop text × (c.push_edges.new.text.items ≡ c.args.text.now.items ++ text) = (
      (head ++ ops.0) ++ edges.0,
      record {
        bounds = m.bounds;
        graph = m.graph;
        measured = answer.1;
        op_lines = ops.0;
        are_op_lines = subst (λ ii. AreTexts (IsHeight m.graph.edges m.graph.latencies ii) (op_line loop m.graph.latencies) (numbers_of loop) ops.0) c.mii-interval.ensures ops.1;
        edge_lines = edges.0;
        are_edge_lines = edges.1;
        is_text = refl;
      },
      two_pushed old (head ++ ops.0) edges.0 c.push_ops.new.text.items c.push_edges.new.text.items
          (two_pushed old head ops.0 c.push_bounds_line.new.text.items c.push_ops.new.text.items c.in_ok-push_bounds_line.ensures.ok ops.2) edges.2,
    ) in
    record { exact = complete (lacking_in machine loop) _ tt answer.0 part }
