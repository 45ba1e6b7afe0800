use Rattle.std.proofs.Common.{◌≡◌, ℕ, List, ◌++◌, ap, ◌∙◌, subst}
use Rattle.std.proofs.lemmas.Result.{on_ok_weaker}
use Rattle.edges.specs.Edges.{EdgeData}
use Rattle.schedules.specs.Problems.{ProblemData as SchedulingData}
use Rattle.problems.specs.declared.draft.Draft.{Draft}
use Rattle.problem_graphs.specs.declared.arrows.Look.TheVariants.{Plain}
use Rattle.problem_graphs.specs.Dot.{graph_head}
use Rattle.problem_graphs.proofs.Drawn.{HasOrders, HasReads, critical-of, drawn, nodes_of}
use Rattle.problem_graphs.proofs.dot.push_dot.Goals as goal

pub returns : goal.returns
returns c =
    let p = c.args.problem.now in
    let name : List ℕ = c.args.name.now in
    let old : List ℕ = c.args.text.now.items in
    let circuit : List EdgeData = c.in_ok-circuit.circuit.items in
    let same : c.scheduling-scheduling.result.now ≡ p.scheduling = c.scheduling-scheduling.ensures.value in
    let critical = critical-of c.scheduling-scheduling.result.now p.scheduling c.edges.result.now c.recurrences.result circuit c.edges.ensures.value c.recurrences.ensures.value same
    c.in_ok-circuit.ensures.exact in
    let first : List ℕ = c.push_head.new.text.items in
    let second : List ℕ = c.push_nodes.new.text.items in
    let third : List ℕ = c.push_reads.new.text.items in
    let fourth : List ℕ = c.push_orders.new.text.items in
    let head : first ≡ old ++ graph_head name p.scheduling = c.in_ok-push_head.ensures.ok ∙ ap (λ (s : SchedulingData). old ++ graph_head name s) same in
    let nodes : second ≡ first ++ nodes_of p.draft = c.in_ok-push_nodes.ensures.ok ∙ ap (λ (d : Draft). first ++ nodes_of d) c.draft.ensures.value in
    let reads : HasReads Plain p.draft circuit second third = subst (λ (d : Draft). HasReads Plain d circuit second third) c.draft-2.ensures.value
    (subst (λ (es : List EdgeData). HasReads Plain c.draft-2.result.now es second third) c.as_slice.ensures.value c.in_ok-push_reads.ensures.ok) in
    let orders : HasOrders Plain p.draft circuit third fourth = subst (λ (d : Draft). HasOrders Plain d circuit third fourth) c.draft-3.ensures.value
    (subst (λ (es : List EdgeData). HasOrders Plain c.draft-3.result.now es third fourth) c.as_slice-2.ensures.value c.in_ok-push_orders.ensures.ok) in
    record {
      ok = on_ok_weaker c.push_piece.result (λ last. drawn name p circuit old first second third fourth c.push_piece.new.self.items critical head nodes reads orders last) c.push_piece.ensures.ok;
    }
