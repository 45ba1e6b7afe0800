use Rattle.std.proofs.Common.{Ok, sym, subst}
use Rattle.graph.specs.TablesAnswer.{TablesAnswer}
use Rattle.graph.specs.Units.{first_without_table}
use Rattle.graph.proofs.finding.Latencies.{answered}
use Rattle.schedules.specs.Problems as schedules
use Rattle.loop_schedules.specs.Problems.{IsProblemOf, with_loop}
use Rattle.loop_schedules.proofs.prepared.Prepared.new.Goals as goal

pub of-requires : goal.of-requires
of-requires c =
    let machine = c.args.machine.now in
    let loop = c.args.innermost in
    let found = answered (first_without_table machine loop) (λ (problem : schedules.ProblemData). IsProblemOf machine loop c.args.ratio c.args.ceiling (with_loop loop machine.registers problem))
    c.in_ok-problem.problem c.in_ok-problem.ensures.exact in
    found.1.is_problem

pub returns : goal.returns
returns c =
    let machine = c.args.machine.now in
    let loop = c.args.innermost in
    let found = answered (first_without_table machine loop) (λ (problem : schedules.ProblemData). IsProblemOf machine loop c.args.ratio c.args.ceiling (with_loop loop machine.registers problem))
    c.in_ok-problem.problem c.in_ok-problem.ensures.exact in
    record {
      exact = subst (λ m. TablesAnswer m (IsProblemOf machine loop c.args.ratio c.args.ceiling) (Ok c.of.result)) (sym found.0)
          (subst (IsProblemOf machine loop c.args.ratio c.args.ceiling) (sym c.of.ensures) found.1);
    }
