use Rattle.std.proofs.Common.{Bool, List, ◌++◌, get_or, ap, ◌∙◌, subst}
use Rattle.edges.specs.Edges.{EdgeData}
use Rattle.registers.specs.declared.value.Read.{Read}
use Rattle.problems.specs.Drafts.{read_edge}
use Rattle.problem_graphs.specs.declared.whys.Why.TheVariants.{Value}
use Rattle.problem_graphs.specs.Arrows.{IsOfCircuit, arrow_line}
use Rattle.lower_bounds.proofs.Texts.{text-next}
use Rattle.problem_graphs.proofs.arrows.push_reads.Goals as goal

pub loop-read-preserved : goal.loop-read-preserved
loop-read-preserved c =
    let draft = c.args.draft.now in
    let look = c.args.look in
    let circuit = c.args.circuit.now in
    let xs : List Read = c.as_slice-read-items.result.now in
    let i = c.loop-read.read-index in
    let d : Read = record { value = 0; reader = 0; distance = 0; offset = 0 } in
    let read : Read = get_or xs i d in
    let drawn = c.is_of-drawn.result in
    text-next (λ (r : Read) (b : Bool). IsOfCircuit circuit (read_edge draft r) b) (λ (r : Read) (b : Bool). arrow_line look draft (read_edge draft r) (Value r.value) b) xs draft.reads.items i d
    c.args.text.now.items c.loop-read.text.items c.push_arrow.new.text.items c.loop-read.invariant.0 drawn c.as_slice-read-items.ensures.value c.loop-read-test.true
    c.loop-read.invariant.1 c.loop-read.invariant.2 (subst (λ (e : EdgeData). IsOfCircuit circuit e drawn) c.read_edge-edge.ensures c.is_of-drawn.ensures)
    (c.in_ok-push_arrow.ensures.ok ∙ ap (λ (e : EdgeData). c.loop-read.text.items ++ arrow_line look draft e (Value read.value) drawn) c.read_edge-edge.ensures)
