use Rattle.std.proofs.Common.{Bool, List, pos, ◌++◌, ap, ◌∙◌, subst}
use Rattle.edges.specs.Edges.{EdgeData}
use Rattle.problems.specs.declared.draft.Order.{Order}
use Rattle.problems.specs.Drafts.{order_edge}
use Rattle.problem_graphs.specs.declared.whys.Why.TheVariants as why
use Rattle.problem_graphs.specs.Arrows.{IsOfCircuit, arrow_line}
use Rattle.lower_bounds.proofs.Texts.{text-next}
use Rattle.problem_graphs.proofs.arrows.push_orders.Goals as goal

pub loop-order-preserved : goal.loop-order-preserved
loop-order-preserved c =
    let draft = c.args.draft.now in
    let look = c.args.look in
    let circuit = c.args.circuit.now in
    let xs : List Order = c.as_slice-order-items.result.now in
    let i = c.loop-order.order-index in
    let d : Order = record { from = 0; to = 0; delay = pos 0; distance = 0 } in
    let drawn = c.is_of-drawn.result in
    text-next (λ (o : Order) (b : Bool). IsOfCircuit circuit (order_edge o) b) (λ (o : Order) (b : Bool). arrow_line look draft (order_edge o) why.Order b) xs draft.orders.items i d
    c.args.text.now.items c.loop-order.text.items c.push_arrow.new.text.items c.loop-order.invariant.0 drawn c.as_slice-order-items.ensures.value c.loop-order-test.true
    c.loop-order.invariant.1 c.loop-order.invariant.2 (subst (λ (e : EdgeData). IsOfCircuit circuit e drawn) c.order_edge-edge.ensures c.is_of-drawn.ensures)
    (c.in_ok-push_arrow.ensures.ok ∙ ap (λ (e : EdgeData). c.loop-order.text.items ++ arrow_line look draft e why.Order drawn) c.order_edge-edge.ensures)
