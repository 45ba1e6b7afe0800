use Rattle.std.proofs.Common.{◌≡◌, Ok, length, sym, ap, ◌∙◌, refl, subst}
use Rattle.graph.specs.Graphs.{IsGraphOf}
use Rattle.graph.specs.TablesAnswer.{TablesAnswer}
use Rattle.graph.specs.Units.{first_without_table, operations_of}
use Rattle.graph.proofs.finding.Latencies.{answered, length-latencies}
use Rattle.loop_schedules.specs.Problems.{IsProblemOf, with_loop}
use Rattle.loop_schedules.specs.declared.offers.Offered.{Offered}
use Rattle.loop_schedules.proofs.problems.Offered.{length-operations, problem_of}
use Rattle.loop_schedules.proofs.loop_problems.loop_problem.Goals as goal

pub of_kinds-requires-clause-each : goal.of_kinds-requires-clause-each
of_kinds-requires-clause-each c =
    let missing = first_without_table c.args.machine.now c.args.innermost.now in
    let edges = answered missing (IsGraphOf c.args.machine.now c.args.innermost.now) c.in_ok-edges.edges c.in_ok-edges.ensures.exact in
    let offers = answered missing (λ (v : Offered). v.alternatives.items ≡ operations_of c.args.machine.now c.args.innermost.now)
    c.in_ok-offered.offered c.in_ok-offered.ensures.exact in
    ap length edges.1.latencies ∙ length-latencies c.args.machine.now c.args.innermost.now ∙ sym (ap length offers.1 ∙ length-operations c.args.machine.now c.args.innermost.now)

pub returns : goal.returns
returns c =
    let machine = c.args.machine.now in
    let loop = c.args.innermost.now in
    let missing = first_without_table machine loop in
    let edges = answered missing (IsGraphOf machine loop) c.in_ok-edges.edges c.in_ok-edges.ensures.exact in
    let offers = answered missing (λ (v : Offered). v.alternatives.items ≡ operations_of machine loop)
    c.in_ok-offered.offered c.in_ok-offered.ensures.exact in
    let made = problem_of machine loop c.in_ok-edges.edges c.in_ok-offered.offered.alternatives.items machine.registers
    c.args.ratio c.args.ceiling c.in_ok-problem.problem c.registers.ensures.well_formed c.in_ok-offered.ensures.innermost edges.1 offers.1
    refl c.in_ok-problem.ensures.exact in
    record {
      exact = subst (λ m. TablesAnswer m (λ problem. IsProblemOf machine loop c.args.ratio c.args.ceiling (with_loop loop machine.registers problem)) (Ok c.in_ok-problem.problem)) (sym edges.0) made;
    }
