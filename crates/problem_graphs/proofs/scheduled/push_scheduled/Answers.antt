use Rattle.std.proofs.Common.{◌≡◌, ℕ, List, ◌++◌, ap, ◌∙◌, subst}
use Rattle.std.proofs.lemmas.Result.{on_ok_weaker}
use Rattle.edges.specs.Edges.{EdgeData}
use Rattle.schedules.specs.Problems.{ProblemData as SchedulingData}
use Rattle.problems.specs.declared.draft.Draft.{Draft}
use Rattle.problem_graphs.specs.declared.arrows.Look.TheVariants.{Scheduled}
use Rattle.problem_graphs.specs.Nodes.{title}
use Rattle.problem_graphs.proofs.Drawn.{HasOrders, HasReads, critical-of, scheduled}
use Rattle.problem_graphs.proofs.scheduled.push_scheduled.Goals as goal

pub returns : goal.returns
returns c =
    let p = c.args.problem.now in
    let name : List ℕ = c.args.name.now in
    let old : List ℕ = c.args.text.now.items in
    let circuit : List EdgeData = c.in_ok-circuit.circuit.items in
    let same : c.scheduling-scheduling.result.now ≡ p.scheduling = c.scheduling-scheduling.ensures.value in
    let critical = critical-of c.scheduling-scheduling.result.now p.scheduling c.edges.result.now c.recurrences.result circuit c.edges.ensures.value c.recurrences.ensures.value same
    c.in_ok-circuit.ensures.exact in
    let zeroth : List ℕ = c.push_title.new.text.items in
    let first : List ℕ = c.push_result.new.text.items in
    let second : List ℕ = c.push_all.new.text.items in
    let third : List ℕ = c.push_reads.new.text.items in
    let fourth : List ℕ = c.push_orders.new.text.items in
    let head : zeroth ≡ old ++ title name p.scheduling = c.in_ok-push_title.ensures.ok ∙ ap (λ (s : SchedulingData). old ++ title name s) same in
    let reads : HasReads Scheduled p.draft circuit second third = subst (λ (d : Draft). HasReads Scheduled d circuit second third) c.draft.ensures.value
    (subst (λ (es : List EdgeData). HasReads Scheduled c.draft.result.now es second third) c.as_slice.ensures.value c.in_ok-push_reads.ensures.ok) in
    let orders : HasOrders Scheduled p.draft circuit third fourth = subst (λ (d : Draft). HasOrders Scheduled d circuit third fourth) c.draft-2.ensures.value
    (subst (λ (es : List EdgeData). HasOrders Scheduled c.draft-2.result.now es third fourth) c.as_slice-2.ensures.value c.in_ok-push_orders.ensures.ok) in
    record {
      ok = on_ok_weaker c.push_piece.result
          (λ last. scheduled name p c.args.outcome.now circuit old zeroth first second third fourth c.push_piece.new.self.items critical head c.in_ok-push_result.ensures.ok
          c.in_ok-push_all.ensures.ok reads orders last)
          c.push_piece.ensures.ok;
    }
