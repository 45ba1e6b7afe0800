use Rattle.std.proofs.Common.{◌≡◌, ◌<◌, ◌++◌, length, get_or, sym, subst, arith}
use Rattle.std.proofs.lemmas.List.{get_or_read}
use Rattle.walks.specs.Walks.{IsHeight}
use Rattle.graph_text.specs.Edges.{op_line}
use Rattle.lower_bounds.proofs.Texts.{texts-next}
use Rattle.writing.proofs.Beginnings.{two_pushed}
use Rattle.graph_text.proofs.listing.dependences.push_ops.Goals as goal

pub loop-number-preserved : goal.loop-number-preserved
loop-number-preserved c =
    let graph = c.args.graph.now in
    let n = c.loop-number.number in
    let heights = c.in_ok-heights.heights.items in
    let within : n < length graph.latencies = omega arith in
    let each : length heights ≡ length graph.latencies = c.in_ok-heights.ensures.each in
    let there : n < length heights = omega arith in
    let is : c.index.result.now ≡ get_or heights n 0 = get_or_read heights n c.index.result.now there c.index.ensures 0 in
    let right : IsHeight graph.edges graph.latencies c.args.interval n c.index.result.now
    = subst (IsHeight graph.edges graph.latencies c.args.interval n) (sym is) (c.in_ok-heights.ensures.exact n within) in (
      c.loop-number.invariant.0 ++ op_line c.args.innermost.now graph.latencies n c.index.result.now,
      texts-next _ (op_line c.args.innermost.now graph.latencies) n c.loop-number.invariant.0 c.index.result.now c.loop-number.invariant.1 right,
      two_pushed _ _ _ _ _ c.loop-number.invariant.2 c.in_ok-push_op.ensures.ok,
    )
