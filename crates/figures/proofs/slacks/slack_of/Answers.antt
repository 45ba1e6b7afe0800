use Rattle.std.proofs.Common.{◌≡◌, ℕ, ◌+◌, ◌-◌, ◌≤◌, pos, eqb, List, ◌++◌, ◌∷◌, [], get_or, take, filter, min, sym, ap, ◌∙◌, subst, arith}
use Rattle.std.specs.Prelude.{slice_index}
use Rattle.std.proofs.lemmas.List.{take_all, take_more}
use Rattle.edges.specs.Edges.{EdgeData}
use Rattle.edges.specs.Graphs.{GraphData}
use Rattle.loop_schedules.specs.Problems.{ProblemData}
use Rattle.overlap.specs.Lifetimes.{last_landing}
use Rattle.figures.proofs.Later.{IsSlackBy, all-out, is-latent, is-timed, landing-at, slack-end, slack-init, slack-kept, slack-lowered}
use Rattle.figures.proofs.slacks.slack_of.Goals as goal
use Rattle.figures.proofs.slacks.slack_of.Goals.{then-edge-op, else-edge-op}

abbrev none : EdgeData
none = record { from = 0; to = 0; distance = 0; delay = pos 0 }

-- the operation lands no later than the last one
pub overflow_sub-slack : goal.overflow_sub-slack
overflow_sub-slack c =
    let schedule = c.args.schedule.now in
    let op = c.args.op in
    let is = c.time.ensures.well_formed in
    let at : slice_index schedule.times op + slice_index schedule.problem.graph.latencies op ≤ last_landing schedule
    = landing-at schedule.times schedule.problem.graph.latencies op (is-timed schedule is op c.requires.there) (is-latent schedule is op c.requires.there) in
    let latency : c.latency.result ≡ slice_index schedule.problem.graph.latencies op
    = c.latency.ensures.value ∙ ap (λ (g : GraphData). slice_index g.latencies op) (c.edges-edges.ensures.value ∙ ap (λ (p : ProblemData). p.graph) c.prepared.ensures.value) in
    omega arith

pub loop-edge-init : goal.loop-edge-init
loop-edge-init c =
    let schedule = c.args.schedule.now in
    let op = c.args.op in
    let is = c.time.ensures.well_formed in
    let at : slice_index schedule.times op + slice_index schedule.problem.graph.latencies op ≤ last_landing schedule
    = landing-at schedule.times schedule.problem.graph.latencies op (is-timed schedule is op c.requires.there) (is-latent schedule is op c.requires.there) in
    let latency : c.latency.result ≡ slice_index schedule.problem.graph.latencies op
    = c.latency.ensures.value ∙ ap (λ (g : GraphData). slice_index g.latencies op) (c.edges-edges.ensures.value ∙ ap (λ (p : ProblemData). p.graph) c.prepared.ensures.value) in
    slack-init schedule is op (c.args.cycles - (c.time.result + c.from.result)) c.requires.there (omega arith)

pub spare-requires : goal.spare-requires
spare-requires c =
    let schedule = c.args.schedule.now in
    let outgoing = c.out_of-outgoing.result.now in
    let same : outgoing ≡ filter (λ (e : EdgeData). eqb e.from c.args.op) schedule.problem.graph.edges
    = c.out_of-outgoing.ensures.value ∙ ap (λ (g : GraphData). filter (λ (e : EdgeData). eqb e.from c.args.op) g.edges) (c.edges-edges.ensures.value ∙ ap (λ (p : ProblemData). p.graph) c.prepared.ensures.value) in
    let out = all-out schedule c.time.ensures.well_formed c.args.op outgoing same c.loop-edge.edge-index none c.loop-edge-test.true in
    record {
      from = out.from_few;
      to = out.to_few;
      kept = out.kept;
    }

pub loop-edge-preserved : goal.loop-edge-preserved
loop-edge-preserved c =
    let schedule = c.args.schedule.now in
    let op : ℕ = c.args.op in
    let outgoing : List EdgeData = c.out_of-outgoing.result.now in
    let same : outgoing ≡ filter (λ (e : EdgeData). eqb e.from c.args.op) schedule.problem.graph.edges
    = c.out_of-outgoing.ensures.value ∙ ap (λ (g : GraphData). filter (λ (e : EdgeData). eqb e.from c.args.op) g.edges) (c.edges-edges.ensures.value ∙ ap (λ (p : ProblemData). p.graph) c.prepared.ensures.value) in
    let i : ℕ = c.loop-edge.edge-index in
    let e : EdgeData = get_or outgoing i none in
    let out = all-out schedule c.time.ensures.well_formed op outgoing same i none c.loop-edge-test.true in
    let next = λ (slack : ℕ) (by : IsSlackBy schedule op (take i outgoing ++ e ∷ []) slack) (is : c.if-edge-op.slack ≡ slack).
    subst (IsSlackBy schedule op (take (i + 1) outgoing)) (sym is)
    (subst (λ es. IsSlackBy schedule op es slack) (sym (take_more outgoing i none c.loop-edge-test.true)) by) in
    elim c.if-edge-op.branch [
      | then-edge-op w ↦
          next (min c.loop-edge.slack w.spare.result)
          (slack-lowered schedule op (take i outgoing) e c.loop-edge.slack w.spare.result (is-timed schedule c.time.ensures.well_formed op c.requires.there) out.there out.from w.if-edge-op.true
          w.spare.ensures c.loop-edge.invariant)
          (w.slack-is ∙ w.min-slack.ensures)
      | else-edge-op w ↦
          next c.loop-edge.slack
          (slack-kept schedule op (take i outgoing) e c.loop-edge.slack c.loop-edge.invariant (λ other. absurd (other w.if-edge-op.false)))
          w.slack-is
    ]

pub returns : goal.returns
returns c =
    let schedule = c.args.schedule.now in
    let outgoing = c.out_of-outgoing.result.now in
    let same : outgoing ≡ filter (λ (e : EdgeData). eqb e.from c.args.op) schedule.problem.graph.edges
    = c.out_of-outgoing.ensures.value ∙ ap (λ (g : GraphData). filter (λ (e : EdgeData). eqb e.from c.args.op) g.edges) (c.edges-edges.ensures.value ∙ ap (λ (p : ProblemData). p.graph) c.prepared.ensures.value) in
    let whole : take c.loop-edge.edge-index outgoing ≡ outgoing = take_all c.loop-edge.edge-index outgoing c.loop-edge-test.false in
    slack-end schedule c.time.ensures.well_formed c.args.op c.loop-edge.slack c.requires.there
    (subst (λ es. IsSlackBy schedule c.args.op es c.loop-edge.slack) (whole ∙ same) c.loop-edge.invariant)
